-- The operations of a series, each with its account, its duration and the ticks that passed, and what they are billed.
-- It looks at the calls and their answers, and at no ledger. Assumes nothing.
use Rattle.std.specs.Prelude.{ℕ, ◌+◌, min, max, Bool, cond, List, [], ◌∷◌, eqb}
use lib.Text.{eqt}
use Rattle.part.specs.Busy.{ticks_of, resets, lasts_for}
use Rattle.ledger_series.specs.Entries.{Done}

abbrev pub accepted : Done → Bool
accepted c = eqb c.reply.refusal 0

-- it began an operation
abbrev pub begins : Done → Bool
begins c = eqt c.reply.outcome "begun"

-- it is a reset that was carried out
abbrev pub stops : Done → Bool
stops c = resets c.call c.reply

abbrev pub ticks : Done → ℕ
ticks c = ticks_of c.call.signals

-- the ticks that the accepted calls of a list let pass: all of them, or up to the end of the first reset
unfoldable pub passed : List Done → ℕ
passed [] = 0
passed (c ∷ cs) = cond (accepted c) (ticks c + cond (stops c) 0 (passed cs)) (passed cs)

-- An operation: who began it, how long it takes, and how many ticks the calls that were accepted after its frame let
-- pass, up to a reset and with the reset's own.
pub record Operation : Type 0 where
  pub account : ℕ
  pub duration : ℕ
  pub passed : ℕ

abbrev pub begun_by : Done → List Done → Operation
begun_by c cs = record { account = c.account; duration = lasts_for c.call; passed = passed cs }

-- the operations that the calls of a list began, in order
unfoldable pub operations : List Done → List Operation
operations [] = []
operations (c ∷ cs) = cond (begins c) (begun_by c cs ∷ operations cs) (operations cs)

-- what an operation is billed: the lesser of its duration and the ticks passed
abbrev pub bill : Operation → ℕ
bill o = min o.duration o.passed

-- what each operation is billed that an account began
unfoldable pub bills : ℕ → List Operation → List ℕ
bills account [] = []
bills account (o ∷ os) = cond (eqb o.account account) (bill o ∷ bills account os) (bills account os)

unfoldable pub sum : List ℕ → ℕ
sum [] = 0
sum (x ∷ xs) = x + sum xs

unfoldable pub largest : List ℕ → ℕ
largest [] = 0
largest (x ∷ xs) = max x (largest xs)

-- the busy ticks that passed in the accepted calls of a list, whoever's they are
unfoldable pub busy_ticks : List Done → ℕ
busy_ticks [] = 0
busy_ticks (c ∷ cs) = cond (accepted c) (min c.call.device.busy (ticks c)) 0 + busy_ticks cs
