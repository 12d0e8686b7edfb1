-- From an empty ledger each account's entries are those of its operations; from a closed one, with the rest of what is
-- running.
-- Assumes nothing.
use Prim.Native.Nat.{ℕ, zero, suc, ◌+◌, ◌<◌, ◌≤◌, min, max}
use mathlib.Core.Bool.{Bool, true, false, cond}
use mathlib.Core.List.{List}
use mathlib.Core.Path.{◌≡◌, refl, ◌∙◌}
use native.Mathlib.Omega.{arith}
use borrow.Author.Tests.{ne_eqb}
use lib.Dec.{eqb}
use lib.ListN.{length, get_or, replicate, length-replicate, get_or-replicate}
use Rattle.device.specs.declared.Device.{Device}
use Rattle.ledger.specs.declared.Running.{Running}
use Rattle.ledger.specs.Ledger.{Ledger, ledger, runs, nobody, empty, closed}
use Rattle.ledger_series.specs.Entries.{Entry, calls, last_ledger}
use Rattle.ledger_series.specs.Operations.{passed, operations, bills, sum, largest, busy_ticks}
use Rattle.ledger_series.specs.Ledgers.{Whole, Right, rest}
use Rattle.ledger_series.proofs.Totals.{total, number}
use Rattle.ledger_series.proofs.Most.{most}
use Rattle.ledger_series.proofs.Together.{together}

-- tables of zeros have an entry for each account
whole_zeros : (r : Running) → Whole (ledger (replicate 256 0) (replicate 256 0) (replicate 256 0) r)
whole_zeros r = let long = length-replicate {A = ℕ} 256 0 in record { totals = long; most = long; numbers = long }

whole_empty : Whole empty
whole_empty = whole_zeros nobody

pub right_empty : (busy : ℕ) → Right empty busy
right_empty busy = record { whole = whole_empty; fair = λ own. absurd (omega arith) }

zeros : (account : ℕ) → account < 256 → get_or (replicate {A = ℕ} 256 0) account 0 ≡ 0
zeros account low = get_or-replicate 256 account 0 0 low

pub right_closed : (l : Ledger) (busy : ℕ) → busy ≤ 60000000 → Right (closed l) busy
right_closed l busy short =
    record { whole = whole_zeros (runs l.running.account 0); fair = λ own. (omega arith, omega arith) }

-- a bill of 0 is none
no_bill : (b : Bool) (n : ℕ) → max 0 (cond b (0 + n) 0) ≡ cond b n 0
no_bill true n = omega arith
no_bill false n = refl

pub from_closed : (es : List Entry) (d : Device) (l : Ledger) (account : ℕ) → account < 256 → d.busy ≤ 60000000
    → let cs = calls es d (closed l) in
    (get_or (last_ledger es d (closed l)).totals account 0
    ≡ rest account l.running d.busy (passed cs) + sum (bills account (operations cs)))
    × (get_or (last_ledger es d (closed l)).most account 0
    ≡ max (rest account l.running d.busy (passed cs)) (largest (bills account (operations cs))))
    × (get_or (last_ledger es d (closed l)).numbers account 0 ≡ length (bills account (operations cs)))
from_closed es d l account low short = (
  total account es d (closed l) low (right_closed l d.busy short).whole ∙ rw (zeros account low) (omega arith),
  most account es d (closed l) low (right_closed l d.busy short) ∙
      rw (
        zeros account low,
        no_bill (eqb l.running.account account) (min d.busy (passed (calls es d (closed l)))),
      ),
  number account es d (closed l) low (right_closed l d.busy short).whole ∙ rw (zeros account low) (omega arith),
)

sum_zeros : (n : ℕ) → sum (replicate n 0) ≡ 0
unfolding sum
sum_zeros zero = refl
sum_zeros (suc n) = rw (sum_zeros n)

pub from_empty : (es : List Entry) (d : Device) (account : ℕ) → account < 256
    → let bs = bills account (operations (calls es d empty)) in
    (get_or (last_ledger es d empty).totals account 0 ≡ sum bs) × (get_or (last_ledger es d empty).most account 0 ≡ largest bs)
    × (get_or (last_ledger es d empty).numbers account 0 ≡ length bs)
from_empty es d account low = (
  total account es d empty low whole_empty ∙ rw (zeros account low, nobodys_account) (omega arith),
  most account es d empty low (right_empty d.busy) ∙ rw (zeros account low, nobodys_account) (omega arith),
  number account es d empty low whole_empty ∙ rw (zeros account low) (omega arith),
)
  where
    nobodys_account : eqb 256 account ≡ false
    nobodys_account = ne_eqb 256 account (λ q. omega arith)

pub all_together : (es : List Entry) (d : Device)
    → sum (last_ledger es d empty).totals + min d.busy (passed (calls es d empty)) ≡ busy_ticks (calls es d empty)
all_together es d = together es d empty whole_empty ∙ rw (sum_zeros 256) (omega arith)
