-- What one call makes of the ledger and of the busy ticks: it is refused, or begins an operation, or does neither. Of the part it takes what
-- that promises of outcome and busy ticks. Assumes nothing.
use Prim.Native.Nat.{ℕ, suc, ◌-◌, ◌<◌, ◌≤◌, min}
use mathlib.Core.Bool.{Bool, true, false, cond}
use mathlib.Core.List.{List}
use mathlib.Core.Path.{◌≡◌, refl, sym, ap, subst, ◌∙◌}
use native.Mathlib.Decide.{ℕ_discrete}
use native.Mathlib.Omega.{arith}
use borrow.Author.Tests.{eq-eqb, ne_eqb}
use lib.Dec.{T, eqb}
use lib.Text.{eqt, eqt→eq}
use Rattle.device.specs.declared.Device.{Device}
use Rattle.device.proofs.Records.{sound_then}
use Rattle.part.specs.Busy.{lasts_for, busy_after}
use Rattle.part.specs.Frame as part
use Rattle.part.proofs.Busy.{begun_idle, busy_is}
use Rattle.series.specs.Turns.{call_of, lengths_of}
use Rattle.series.proofs.Turns.{accepted_turn, sound_turn}
use Rattle.ledger.specs.declared.Running.{Running}
use Rattle.ledger.specs.Ledger.{Ledger, ledger, runs, nobody, at, paid, charged, stopped, booked}
use Rattle.ledger_frame.proofs.Frames.{open_to}
use Rattle.ledger_series.specs.Entries.{Entry, Done, reply_to, ledger_by, done_of}
use Rattle.ledger_series.specs.Operations.{accepted, begins, stops, ticks}
use Rattle.ledger_series.proofs.Entries.{let_through_lem, refused_through, refused_ledger}

-- what came off is billed, and of the rest of the ledger so much is known
abbrev pub billed : Done → Ledger → ℕ → List ℕ → Running → Ledger
billed c l busy numbers running = let after = charged (min busy (ticks c)) l in ledger after.totals after.most numbers running

-- from a ledger and so many busy ticks to those afterwards
pub data Stepped (c : Done) (l l' : Ledger) (busy busy' : ℕ) : Type 0 where
  refusedly : accepted c ≡ false → begins c ≡ false → l' ≡ l → busy' ≡ busy → Stepped c l l' busy busy'
  beginning : accepted c ≡ true → begins c ≡ true → c.account < 256 → busy ≤ ticks c → busy' ≡ lasts_for c.call → busy' ≤ 60000000
      → l' ≡ billed c l busy (at c.account suc l.numbers) (runs c.account 0) → Stepped c l l' busy busy'
  going : accepted c ≡ true → begins c ≡ false → busy' ≡ cond (stops c) 0 (busy - ticks c)
      → l' ≡ billed c l busy l.numbers (cond (eqb busy' 0) nobody (paid l.running (min busy (ticks c)))) → Stepped c l l' busy busy'

-- a ledger whose running operation ends, or not
ended : (b : Bool) (l : Ledger) → cond b (stopped l) l ≡ ledger l.totals l.most l.numbers (cond b nobody l.running)
ended true l = refl
ended false l = refl

-- an accepted call
module _ (e : Entry) (d : Device) (l : Ledger) (z : (reply_to e d l).refusal ≡ 0) where
  abbrev c : part.Call
  c = call_of e.turn d

  -- is answered by the part
  answered : reply_to e d l ≡ part.replied c (lengths_of e.turn)
  answered = (let_through_lem e d l z).1

  part_accepts : (part.replied c (lengths_of e.turn)).refusal ≡ 0
  part_accepts = sym (ap (λ (r : part.Reply). r.refusal) answered) ∙ z

  -- leaves the busy ticks that its outcome tells
  left_busy : (reply_to e d l).device.busy ≡ busy_after c (reply_to e d l)
  left_busy = subst (λ (r : part.Reply). r.device.busy ≡ busy_after c r) (sym answered) (busy_is c (lengths_of e.turn) part_accepts)

  -- which are no more than an operation may take
  left_short : (reply_to e d l).device.busy ≤ 60000000
  left_short =
      let sound = sound_turn e.turn d (accepted_turn e.turn d part_accepts).sound in
      subst (λ (r : part.Reply). r.device.busy ≤ 60000000) (sym answered) (sound_then (part.replied c (lengths_of e.turn)).device sound).short

  -- begins an operation of an idle part
  was_idle : eqt (reply_to e d l).outcome "begun" ≡ true → d.busy ≤ e.turn.signals.elapsed
  was_idle w =
      let begun = eqt→eq (reply_to e d l).outcome "begun" (subst T (sym w) tt) in
      begun_idle c (lengths_of e.turn) (sym (ap (λ (r : part.Reply). r.outcome) answered) ∙ begun)

  by_outcome : (b : Bool) → eqt (reply_to e d l).outcome "begun" ≡ b → Stepped (done_of e d l) l (ledger_by e d l) d.busy (reply_to e d l).device.busy
  unfolding booked
  by_outcome true w =
      let idle = was_idle w in
      beginning (eq-eqb _ 0 z) w (open_to e.account l (let_through_lem e d l z).0).0 (omega arith) (left_busy ∙ rw w) left_short (rw (z, w))
  by_outcome false w = going (eq-eqb _ 0 z) w (left_busy ∙ rw w) (rw (z, w) (ended (eqb (reply_to e d l).device.busy 0) (charged (min d.busy (ticks (done_of e d l))) l)))

pub stepped : (e : Entry) (d : Device) (l : Ledger) → Stepped (done_of e d l) l (ledger_by e d l) d.busy (reply_to e d l).device.busy
stepped e d l = by (ℕ_discrete (reply_to e d l).refusal 0)
  where
    by : Dec ((reply_to e d l).refusal ≡ 0) → Stepped (done_of e d l) l (ledger_by e d l) d.busy (reply_to e d l).device.busy
    by (yes z) = by_outcome e d l z (eqt (reply_to e d l).outcome "begun") refl
    by (no n) =
        let r = refused_through e d l n in
        refusedly (ne_eqb (reply_to e d l).refusal 0 n) (ap (λ (r : part.Reply). eqt r.outcome "begun") r) (refused_ledger e d l n) (ap (λ (r : part.Reply). r.device.busy) r)
