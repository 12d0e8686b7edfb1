-- The ledger: what each account was billed, and what one call makes of it. Assumes nothing.
use Rattle.std.specs.Prelude.{ℕ, zero, suc, ◌+◌, min, max, Bool, false, cond, not, ◌||◌, List, ltb, eqb, get_or, set}
use Rattle.std.specs.Prelude.{replicate, Result, Ok, Err}
use lib.Text.{eqt}
use Rattle.calls.specs.declared.Signals.{Signals}
use Rattle.refusals.specs.declared.Refusal.{Refusal}
use Rattle.part.specs.Busy.{ticks_of}
use Rattle.part.specs.Frame.{Reply}
use Rattle.ledger.specs.declared.Running.{Running}
use Rattle.ledger.specs.declared.Reported.{Reported}

-- the accounts are 0 to 255
abbrev pub is_account : ℕ → Bool
is_account account = ltb account 256

-- For each account its total, the most ticks billed for one of its operations, and the number of its operations; and
-- whose operation is running, with what it was billed so far. An account over 255 is nobody.
pub record Ledger : Type 0 where
  pub totals : List ℕ
  pub most : List ℕ
  pub numbers : List ℕ
  pub running : Running

abbrev pub ledger : List ℕ → List ℕ → List ℕ → Running → Ledger
ledger totals most numbers running = record { totals = totals; most = most; numbers = numbers; running = running }

abbrev pub runs : ℕ → ℕ → Running
runs account billed = record { account = account; billed = billed }

abbrev pub nobody : Running
nobody = runs 256 0

-- an empty ledger
abbrev pub empty : Ledger
empty = ledger (replicate 256 0) (replicate 256 0) (replicate 256 0) nobody

-- refusal 9: there is no such account, or one that there is has a total or a number above this
abbrev pub limit : ℕ
limit = 9000000000000000000

unfoldable pub above_before : ℕ → List ℕ → Bool
above_before zero table = false
above_before (suc n) table = ltb limit (get_or table n 0) || above_before n table

abbrev pub any_above : List ℕ → Bool
any_above table = above_before 256 table

abbrev pub shut : ℕ → Ledger → Bool
shut account l = not (is_account account) || (any_above l.totals || any_above l.numbers)

-- what comes off the busy ticks in a call: not more than was left before
abbrev pub came_off : ℕ → Signals → ℕ
came_off busy signals = min busy (ticks_of signals)

-- the entry of an account changes; nobody has none
abbrev pub at : ℕ → (ℕ → ℕ) → List ℕ → List ℕ
at account f table = cond (is_account account) (set table account (f (get_or table account 0))) table

-- what an account's operation was billed so far rises, up to the largest number of 64 bits
abbrev pub paid : Running → ℕ → Running
paid running ticks =
    cond (is_account running.account) (runs running.account (min (running.billed + ticks) 0xFFFFFFFFFFFFFFFF))
    running

-- ticks are billed to the account of the running operation
abbrev pub charged : ℕ → Ledger → Ledger
charged ticks l =
    ledger (at l.running.account (λ total. total + ticks) l.totals)
    (at l.running.account (λ most. max most (paid l.running ticks).billed) l.most) l.numbers
    (paid l.running ticks)

-- the number of an account rises by one, and its operation runs
abbrev pub started : ℕ → Ledger → Ledger
started account l = ledger l.totals l.most (at account suc l.numbers) (runs account 0)

-- nobody's operation runs any more
abbrev pub stopped : Ledger → Ledger
stopped l = ledger l.totals l.most l.numbers nobody

-- after the frame the calling account's operation runs, if one was begun, and nobody's, if the part is idle: it ended,
-- or a reset stopped it
abbrev pub turned : Bool → Bool → ℕ → Ledger → Ledger
turned begun idle account l = cond begun (started account l) (cond idle (stopped l) l)

-- An accepted call, of a part with so many busy ticks left: what came off is billed first.
abbrev pub settled : ℕ → Signals → Reply → ℕ → Ledger → Ledger
settled busy signals r account l =
    turned (eqt r.outcome "begun") (eqb r.device.busy 0) account (charged (came_off busy signals) l)

-- a refused call changes nothing
unfoldable pub booked : ℕ → Signals → Reply → ℕ → Ledger → Ledger
booked busy signals r account l = cond (eqb r.refusal 0) (settled busy signals r account l) l

-- A month is closed: the tables are empty, and the operation that runs stays its account's, billed nothing so far in
-- the new month.
abbrev pub closed : Ledger → Ledger
closed l = ledger (replicate 256 0) (replicate 256 0) (replicate 256 0) (runs l.running.account 0)

-- the report on an account: its total, its most and its number; refusal 9 where there is none
abbrev pub reported : ℕ → List ℕ → List ℕ → List ℕ → Result Reported Refusal
reported account totals most numbers =
    cond (is_account account)
    (Ok (record { total = get_or totals account 0; most = get_or most account 0; number = get_or numbers account 0 }))
    (Err Refusal.Account)
