-- A ledger that a series may begin with, and what its tables say in the end. Assumes nothing.
use Rattle.std.specs.Prelude.{ℕ, ◌+◌, ◌<◌, ◌≤◌, min, max, cond, List, ◌≡◌, eqb, length, get_or}
use Rattle.ledger.specs.declared.Running.{Running}
use Rattle.ledger.specs.Ledger.{Ledger, is_account}
use Rattle.ledger_series.specs.Entries.{Done}
use Rattle.ledger_series.specs.Operations.{passed, operations, bills, sum, largest}

-- the tables have an entry for each account
pub record Whole (l : Ledger) : Type 0 where
  pub totals : length l.totals ≡ 256
  pub most : length l.most ≡ 256
  pub numbers : length l.numbers ≡ 256

-- What the running operation was billed so far is not above its account's most, and with the ticks left it is no more
-- than an operation may take.
abbrev pub Fair : Ledger → ℕ → Type 0
Fair l busy =
    l.running.account < 256 → (l.running.billed ≤ get_or l.most l.running.account 0)
    × (l.running.billed + busy ≤ 60000000)

-- both
pub record Right (l : Ledger) (busy : ℕ) : Type 0 where
  pub whole : Whole l
  pub fair : Fair l busy

-- the ticks of the running operation that an account is still billed, if so many are left and so many pass
abbrev pub rest : ℕ → Running → ℕ → ℕ → ℕ
rest account r busy p = cond (eqb r.account account) (min busy p) 0

-- An account's total in the end: what stood there, the rest of what is running, and the bills of what begins.
abbrev pub total_after : ℕ → Ledger → ℕ → List Done → ℕ
total_after account l busy cs =
    get_or l.totals account 0 + (rest account l.running busy (passed cs) + sum (bills account (operations cs)))

-- Its number: what stood there, and how many begin.
abbrev pub number_after : ℕ → Ledger → List Done → ℕ
number_after account l cs = get_or l.numbers account 0 + length (bills account (operations cs))

-- Its most: what stood there, what the running operation is billed in all, or the largest bill of those that begin.
abbrev pub most_after : ℕ → Ledger → ℕ → List Done → ℕ
most_after account l busy cs =
    max
    (max (get_or l.most account 0)
    (cond (eqb l.running.account account) (l.running.billed + min busy (passed cs)) 0))
    (largest (bills account (operations cs)))

-- What is billed to nobody: the rest of what is running, if it is nobody's.
abbrev pub nobodys : Ledger → ℕ → List Done → ℕ
nobodys l busy cs = cond (is_account l.running.account) 0 (min busy (passed cs))
