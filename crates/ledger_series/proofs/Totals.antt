-- An account's total and number after a series: what they are now, and what the operation that is running and those still to begin add.
-- Assumes nothing.
use Prim.Native.Nat.{ℕ, suc, ◌+◌, ◌<◌, ◌≤◌, min}
use mathlib.Core.Bool.{Bool, true, false, cond}
use mathlib.Core.List.{List, ◌∷◌}
use mathlib.Core.Path.{◌≡◌, refl, ◌∙◌}
use native.Mathlib.Decide.{ℕ_discrete}
use native.Mathlib.Omega.{arith}
use borrow.Author.Tests.{ne_eqb}
use lib.Dec.{eqb}
use lib.ListN.{length, get_or}
use Rattle.device.specs.declared.Device.{Device}
use Rattle.part.specs.Busy.{lasts_for}
use Rattle.ledger.specs.declared.Running.{Running}
use Rattle.ledger.specs.Ledger.{Ledger, nobody, paid}
use Rattle.ledger_series.specs.Entries.{Entry, Done, calls, last_ledger}
use Rattle.ledger_series.specs.Operations.{stops, ticks, passed, operations, bills, sum}
use Rattle.ledger_series.specs.Ledgers.{Whole, rest, total_after, number_after}
use Rattle.ledger_series.proofs.Tables.{entry_at}
use Rattle.ledger_series.proofs.Steps.{Stepped}
use Rattle.ledger_series.proofs.Folds.{whole_step, paid_account, off_then, in_the_end}

-- where no tick is left it does not matter who runs
still_running : (account : ℕ) (r : Running) (off busy p : ℕ)
    → rest account (cond (eqb busy 0) nobody (paid r off)) busy p ≡ rest account r busy p
still_running account r off busy p = by (ℕ_discrete busy 0)
  where
    nothing_left : (b c : Bool) → cond b (min 0 p) 0 ≡ cond c (min 0 p) 0
    nothing_left true true = refl
    nothing_left true false = omega arith
    nothing_left false true = omega arith
    nothing_left false false = refl

    by : Dec (busy ≡ 0) → rest account (cond (eqb busy 0) nobody (paid r off)) busy p ≡ rest account r busy p
    by (yes z) = rw z (nothing_left (eqb 256 account) (eqb r.account account))
    by (no n) = rw (ne_eqb busy 0 n, paid_account r off)

-- what came off before the frame that begins is all that was left
total_begun : (r own : Bool) (total busy t x bill : ℕ) (bs : List ℕ) → busy ≤ t
    → cond r (total + min busy t) total + (cond own bill 0 + sum bs) ≡ total + (cond r (min busy (t + x)) 0 + sum (cond own (bill ∷ bs) bs))
unfolding sum
total_begun true true total busy t x bill bs idle = omega arith
total_begun true false total busy t x bill bs idle = omega arith
total_begun false true total busy t x bill bs idle = omega arith
total_begun false false total busy t x bill bs idle = omega arith

total_going : (r : Bool) (total busy t later whole sums : ℕ) → min busy t + later ≡ whole
    → cond r (total + min busy t) total + (cond r later 0 + sums) ≡ total + (cond r whole 0 + sums)
total_going true total busy t later whole sums e = omega arith
total_going false total busy t later whole sums e = refl

total_step : (account : ℕ) (c : Done) (cs : List Done) (l l' : Ledger) (busy busy' : ℕ) → account < 256 → Whole l → Stepped c l l' busy busy'
    → total_after account l' busy' cs ≡ total_after account l busy (c ∷ cs)
unfolding passed operations bills
total_step account c cs l l' busy busy' low w (Stepped.refusedly acc beg kept same) = rw (acc, beg, kept, same)
total_step account c cs l l' busy busy' low w (Stepped.beginning acc beg own idle lasts short after) =
    rw (acc, beg, after, lasts, entry_at l.running.account account (λ total. total + min busy (ticks c)) l.totals w.totals low)
    (total_begun (eqb l.running.account account) (eqb c.account account) (get_or l.totals account 0) busy (ticks c) (cond (stops c) 0 (passed cs))
    (min (lasts_for c.call) (passed cs)) (bills account (operations cs)) idle)
total_step account c cs l l' busy busy' low w (Stepped.going acc beg left after) =
    rw
    (acc, beg, after, entry_at l.running.account account (λ total. total + min busy (ticks c)) l.totals w.totals low, still_running account l.running (min busy (ticks c)) busy' (passed cs))
    (total_going (eqb l.running.account account) (get_or l.totals account 0) busy (ticks c) (min busy' (passed cs))
    (min busy (ticks c + cond (stops c) 0 (passed cs))) (sum (bills account (operations cs))) (off_then (stops c) busy busy' (ticks c) (passed cs) left))

-- nothing is left to pass after the last call
pub none_later : (b : Bool) (busy : ℕ) → cond b (min busy 0) 0 ≡ 0
none_later true busy = omega arith
none_later false busy = refl

pub total : (account : ℕ) (es : List Entry) (d : Device) (l : Ledger) → account < 256 → Whole l
    → get_or (last_ledger es d l).totals account 0 ≡ total_after account l d.busy (calls es d l)
unfolding passed operations bills sum
total account es d l low =
    in_the_end (λ (l : Ledger) (busy : ℕ). Whole l) whole_step
    (λ (last l : Ledger) (busy : ℕ) (cs : List Done). get_or last.totals account 0 ≡ total_after account l busy cs)
    (λ l busy r. rw (none_later (eqb l.running.account account) busy) (omega arith))
    (λ last c cs l l' busy' r after e. e ∙ total_step account c cs l l' c.call.device.busy busy' low r after) es d
    l

one_more : (own : Bool) (number bill : ℕ) (bs : List ℕ) → cond own (suc number) number + length bs ≡ number + length (cond own (bill ∷ bs) bs)
one_more true number bill bs = omega arith
one_more false number bill bs = refl

number_step : (account : ℕ) (c : Done) (cs : List Done) (l l' : Ledger) (busy busy' : ℕ) → account < 256 → Whole l → Stepped c l l' busy busy'
    → number_after account l' cs ≡ number_after account l (c ∷ cs)
unfolding operations bills
number_step account c cs l l' busy busy' low w (Stepped.refusedly acc beg kept same) = rw (beg, kept)
number_step account c cs l l' busy busy' low w (Stepped.beginning acc beg own idle lasts short after) =
    rw (beg, after, entry_at c.account account suc l.numbers w.numbers low)
    (one_more (eqb c.account account) (get_or l.numbers account 0) (min (lasts_for c.call) (passed cs)) (bills account (operations cs)))
number_step account c cs l l' busy busy' low w (Stepped.going acc beg left after) = rw (beg, after)

pub number : (account : ℕ) (es : List Entry) (d : Device) (l : Ledger) → account < 256 → Whole l
    → get_or (last_ledger es d l).numbers account 0 ≡ number_after account l (calls es d l)
unfolding operations bills
number account es d l low =
    in_the_end (λ (l : Ledger) (busy : ℕ). Whole l) whole_step
    (λ (last l : Ledger) (busy : ℕ) (cs : List Done). get_or last.numbers account 0 ≡ number_after account l cs)
    (λ l busy r. omega arith)
    (λ last c cs l l' busy' r after e. e ∙ number_step account c cs l l' c.call.device.busy busy' low r after) es d
    l
