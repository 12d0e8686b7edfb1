-- Going through a series from its first call on: the tables stay whole, what was billed so far stays within bounds, and what holds after the
-- last call, and before each if it holds after it, holds of the series. Assumes nothing.
use Prim.Native.Nat.{ℕ, suc, ◌+◌, ◌-◌, ◌<◌, ◌≤◌, min, max}
use mathlib.Core.Bool.{Bool, true, false, cond}
use mathlib.Core.List.{List, [], ◌∷◌}
use mathlib.Core.Path.{◌≡◌, refl, sym, subst, ◌∙◌}
use native.Mathlib.Decide.{ℕ_discrete}
use native.Mathlib.Omega.{arith}
use borrow.Author.Tests.{lt-ltb, eq-eqb, ne_eqb}
use lib.Dec.{eqb}
use lib.ListN.{length, get_or}
use Rattle.runs.specs.Run as run
use Rattle.device.specs.declared.Device.{Device}
use Rattle.ledger.specs.declared.Running.{Running}
use Rattle.ledger.specs.Ledger.{Ledger, is_account, runs, nobody, at, paid}
use Rattle.ledger_series.specs.Entries.{Entry, Done, reply_to, ledger_by, done_of, calls, last_record, last_ledger}
use Rattle.ledger_series.specs.Operations.{stops, ticks}
use Rattle.ledger_series.specs.Ledgers.{Whole, Fair, Right}
use Rattle.ledger_series.proofs.Tables.{length_at, entry_at}
use Rattle.ledger_series.proofs.Steps.{Stepped, billed, stepped}

whole_billed : (c : Done) (l : Ledger) (busy : ℕ) (numbers : List ℕ) (running : Running) → Whole l → length numbers ≡ 256
    → Whole (billed c l busy numbers running)
whole_billed c l busy numbers running w long =
    record {
      totals = length_at l.running.account (λ total. total + min busy (ticks c)) l.totals ∙ w.totals;
      most = length_at l.running.account (λ most. max most (paid l.running (min busy (ticks c))).billed) l.most ∙ w.most;
      numbers = long;
    }

pub whole_step : (c : Done) (l l' : Ledger) (busy busy' : ℕ) → Whole l → Stepped c l l' busy busy' → Whole l'
whole_step c l l' busy busy' w (Stepped.refusedly acc beg kept same) = subst Whole (sym kept) w
whole_step c l l' busy busy' w (Stepped.beginning acc beg low idle lasts short after) =
    subst Whole (sym after) (whole_billed c l busy (at c.account suc l.numbers) (runs c.account 0) w (length_at c.account suc l.numbers ∙ w.numbers))
whole_step c l l' busy busy' w (Stepped.going acc beg left after) =
    subst Whole (sym after) (whole_billed c l busy l.numbers (cond (eqb busy' 0) nobody (paid l.running (min busy (ticks c)))) w w.numbers)

-- what comes off now and what may come off later come off together
pub off_then : (reset : Bool) (busy busy' t p : ℕ) → busy' ≡ cond reset 0 (busy - t) → min busy t + min busy' p ≡ min busy (t + cond reset 0 p)
off_then true busy busy' t p e = omega arith
off_then false busy busy' t p e = omega arith

pub paid_account : (r : Running) (off : ℕ) → (paid r off).account ≡ r.account
paid_account r off = by (is_account r.account)
  where
    by : (b : Bool) → (cond b (runs r.account (min (r.billed + off) 0xFFFFFFFFFFFFFFFF)) r).account ≡ r.account
    by true = refl
    by false = refl

-- so the sum does not stop
pub paid_billed : (r : Running) (off : ℕ) → r.account < 256 → r.billed + off ≤ 60000000 → (paid r off).billed ≡ r.billed + off
paid_billed r off low short = rw (lt-ltb r.account 256 low) (omega arith)

-- what comes off and what is left afterwards were left before
off_within : (reset : Bool) (busy busy' t : ℕ) → busy' ≡ cond reset 0 (busy - t) → min busy t + busy' ≤ busy
off_within true busy busy' t e = omega arith
off_within false busy busy' t e = omega arith

-- the most of the account whose operation is running, after what came off was billed
pub most_billed : (c : Done) (l : Ledger) (busy : ℕ) → Whole l → Fair l busy → l.running.account < 256
    → get_or (at l.running.account (λ most. max most (paid l.running (min busy (ticks c))).billed) l.most) l.running.account 0
    ≡ max (get_or l.most l.running.account 0) (l.running.billed + min busy (ticks c))
most_billed c l busy w fair own =
    let r = l.running in
    entry_at r.account r.account (λ most. max most (paid r (min busy (ticks c))).billed) l.most w.most own ∙
    rw (eq-eqb r.account r.account refl, paid_billed r (min busy (ticks c)) own (let short = (fair own).1 in omega arith))

pub fair_step : (c : Done) (l l' : Ledger) (busy busy' : ℕ) → Whole l → Fair l busy → Stepped c l l' busy busy' → Fair l' busy'
fair_step c l l' busy busy' w fair (Stepped.refusedly acc beg kept same) = rw (kept, same) fair
fair_step c l l' busy busy' w fair (Stepped.beginning acc beg low idle lasts short after) = rw after (λ own. (omega arith, omega arith))
fair_step c l l' busy busy' w fair (Stepped.going acc beg left after) = rw after (by (ℕ_discrete busy' 0))
  where
    by : Dec (busy' ≡ 0) → Fair (billed c l busy l.numbers (cond (eqb busy' 0) nobody (paid l.running (min busy (ticks c))))) busy'
    by (yes z) = rw (eq-eqb busy' 0 z) (λ own. absurd (omega arith))
    by (no n) =
        rw (ne_eqb busy' 0 n, paid_account l.running (min busy (ticks c)))
        (λ own.
        let short = (fair own).1 in
        rw (most_billed c l busy w fair own, paid_billed l.running (min busy (ticks c)) own (omega arith))
        (omega arith, let within = off_within (stops c) busy busy' (ticks c) left in omega arith))

pub right_step : (c : Done) (l l' : Ledger) (busy busy' : ℕ) → Right l busy → Stepped c l l' busy busy' → Right l' busy'
right_step c l l' busy busy' r s =
    record {
      whole = whole_step c l l' busy busy' r.whole s;
      fair = fair_step c l l' busy busy' r.whole
          r.fair s;
    }

-- of a property of the last ledger, told from the ledger, the busy ticks and the calls still to come, where each step
-- keeps what it needs
pub in_the_end : (Needs : Ledger → ℕ → Type 0)
    → ((c : Done) (l l' : Ledger) (busy busy' : ℕ) → Needs l busy → Stepped c l l' busy busy' → Needs l' busy')
    → (P : Ledger → Ledger → ℕ → List Done → Type 0) → ((l : Ledger) (busy : ℕ) → Needs l busy → P l l busy [])
    → ((last : Ledger) (c : Done) (cs : List Done) (l l' : Ledger) (busy' : ℕ) → Needs l c.call.device.busy
    → Stepped c l l' c.call.device.busy busy'
    → P last l' busy' cs → P last l c.call.device.busy (c ∷ cs))
    → (es : List Entry) (d : Device) (l : Ledger) → Needs l d.busy → P (last_ledger es d l) l d.busy (calls es d l)
unfolding run.end run.gathered
in_the_end Needs keeps P base step [] d l r = base l d.busy r
in_the_end Needs keeps P base step (e ∷ es) d l r =
    let c = done_of e d l in
    let l' = ledger_by e d l in
    let d' = (reply_to e d l).device in
    let after = stepped e d l in
    step (last_ledger es d' l') c (calls es d' l') l l' d'.busy r after
    (in_the_end Needs keeps P base step es d' l' (keeps c l l' d.busy d'.busy r after))

-- what is needed is there at the end too
pub stays_right : (es : List Entry) (d : Device) (l : Ledger) → Right l d.busy
    → Right (last_ledger es d l) (last_record es d l).busy
unfolding run.end
stays_right [] d l r = r
stays_right (e ∷ es) d l r =
    let d' = (reply_to e d l).device in
    stays_right es d' (ledger_by e d l)
    (right_step (done_of e d l) l (ledger_by e d l) d.busy d'.busy r (stepped e d l))
