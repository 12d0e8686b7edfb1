-- The largest word of the ledger's tables, and bounds of it. Assumes nothing.
use Rattle.std.specs.Prelude.{ℕ, zero, suc, ◌+◌, ◌≤◌, max, cond, List, ltb, get_or}
use Rattle.ledger.specs.Ledger.{Ledger, limit}

-- the largest of the first words of two tables
unfoldable pub top_before : ℕ → List ℕ → List ℕ → ℕ
top_before zero totals numbers = 0
top_before (suc n) totals numbers = max (max (get_or totals n 0) (get_or numbers n 0)) (top_before n totals numbers)

-- of all of them
abbrev pub top : List ℕ → List ℕ → ℕ
top totals numbers = top_before 256 totals numbers

-- no total and no number of a ledger is above the bound
abbrev pub Bounded : ℕ → Ledger → Type 0
Bounded bound l = top l.totals l.numbers ≤ bound

-- a bound above the limit gives way to the largest word
abbrev pub watched : ℕ → List ℕ → List ℕ → ℕ
watched bound totals numbers = cond (ltb limit bound) (top totals numbers) bound

-- a call raises a word by no more than the longest duration; above the limit none is accepted
abbrev pub raised : ℕ → ℕ
raised bound = cond (ltb limit bound) bound (bound + 60000000)
