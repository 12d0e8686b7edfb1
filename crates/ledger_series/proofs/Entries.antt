-- One call of a series through the ledger, by whether it is refused. Assumes nothing.
use mathlib.Core.Bool.{Bool, true, false, false≢true, cond, ◌&&◌}
use mathlib.Core.List.{List, [], ◌∷◌, ◌++◌}
use mathlib.Core.Logic.{◌≢◌}
use mathlib.Core.Path.{◌≡◌, refl, sym, ap, ◌∙◌}
use native.Mathlib.Omega.{arith}
use borrow.Author.Tests.{eq-eqb, ne_eqb}
use lib.Dec.{eqb}
use Rattle.runs.specs.Run as run
use Rattle.device.specs.declared.Device.{Device}
use Rattle.calls.specs.declared.Lengths.{Lengths}
use Rattle.part.specs.Frame as part
use Rattle.part.specs.Frame.{Call, number_for, refused}
use Rattle.part.proofs.Answers.{refusal_is}
use Rattle.series.specs.Turns.{call_of, lengths_of}
use Rattle.series.proofs.Turns.{refused_reply}
use Rattle.ledger.specs.Ledger.{Ledger, shut, booked}
use Rattle.ledger_frame.specs.Frame.{shut_out, replied}
use Rattle.ledger_series.specs.Entries.{Entry, reply_to, ledger_by, done_of, books, next, calls, last_record}
use Rattle.ledger_series.specs.Entries.{last_ledger, turns_through}

module _ (e : Entry) (d : Device) (l : Ledger) where
  abbrev c : Call
  c = call_of e.turn d

  abbrev lengths : Lengths
  lengths = lengths_of e.turn

  -- an accepted call: the ledger is not shut to it, and the part answers it
  pub let_through_lem : (reply_to e d l).refusal ≡ 0 → (shut e.account l ≡ false) × (reply_to e d l ≡ part.replied c lengths)
  unfolding replied
  let_through_lem z = by (eqb (number_for c lengths) 0) refl (shut e.account l) z
    where
      by : (b : Bool) → eqb (number_for c lengths) 0 ≡ b → (s : Bool) → (cond (b && s) (refused 9 d) (part.replied c lengths)).refusal ≡ 0
          → (s ≡ false) × (cond (b && s) (refused 9 d) (part.replied c lengths) ≡ part.replied c lengths)
      by true t true z = absurd (omega arith)
      by true t false z = (refl, refl)
      by false t s z = absurd (false≢true (sym t ∙ eq-eqb (number_for c lengths) 0 (sym (refusal_is c lengths) ∙ z)))

  -- a refused one hands the record back as it came
  pub refused_through : (reply_to e d l).refusal ≢ 0 → reply_to e d l ≡ refused (reply_to e d l).refusal d
  unfolding replied
  refused_through n = by (shut_out c lengths e.account l) n
    where
      by : (b : Bool) → (cond b (refused 9 d) (part.replied c lengths)).refusal ≢ 0
          → cond b (refused 9 d) (part.replied c lengths) ≡ refused (cond b (refused 9 d) (part.replied c lengths)).refusal d
      by true n = refl
      by false n = refused_reply e.turn d n

  -- and the ledger stays
  pub refused_ledger : (reply_to e d l).refusal ≢ 0 → ledger_by e d l ≡ l
  unfolding booked
  refused_ledger n = rw (ne_eqb (reply_to e d l).refusal 0 n)

  -- so all stands as it stood
  pub refused_stays : (reply_to e d l).refusal ≢ 0 → next e (books d l) ≡ books d l
  refused_stays n = rw (refused_ledger n) (ap (λ (r : part.Reply). books r.device l) (refused_through n))

-- at most one thing, before others
at_most_one : {A : Type 0} (out : Bool) (x : A) (xs : List A) → cond out [] (x ∷ []) ++ xs ≡ cond out xs (x ∷ xs)
at_most_one true x xs = refl
at_most_one false x xs = refl

-- one step
pub one_entry : (e : Entry) (es : List Entry) (d : Device) (l : Ledger)
    → (calls (e ∷ es) d l ≡ done_of e d l ∷ calls es (reply_to e d l).device (ledger_by e d l))
    × (last_record (e ∷ es) d l ≡ last_record es (reply_to e d l).device (ledger_by e d l))
    × (last_ledger (e ∷ es) d l ≡ last_ledger es (reply_to e d l).device (ledger_by e d l))
    × (turns_through (e ∷ es) d l
    ≡ cond (shut_out (call_of e.turn d) (lengths_of e.turn) e.account l) (turns_through es (reply_to e d l).device (ledger_by e d l))
    (e.turn ∷ turns_through es (reply_to e d l).device (ledger_by e d l)))
unfolding run.end run.gathered
one_entry e es d l = (refl, refl, refl, at_most_one (shut_out (call_of e.turn d) (lengths_of e.turn) e.account l) e.turn _)
