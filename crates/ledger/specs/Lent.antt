-- A ledger as the code holds it: three tables that are lent, and whose operation is running. Assumes nothing.
use Rattle.std.specs.Prelude.{◌≡◌}
use Rattle.ledger.specs.declared.Ledger as held
use Rattle.ledger.specs.Ledger.{Ledger, ledger}

abbrev pub ledger_of : held.Ledger → Ledger
ledger_of l = ledger l.totals.now l.most.now l.numbers.now l.running

-- afterwards the same three tables are lent
abbrev pub SameTables : held.Ledger → held.Ledger → Type 0
SameTables before after =
    (after.totals.ghost_name ≡ before.totals.ghost_name) ×
    ((after.most.ghost_name ≡ before.most.ghost_name) × (after.numbers.ghost_name ≡ before.numbers.ghost_name))
