-- `ledger::has_above` meets its contract: a test of each word is the table's. Assumes nothing.
use Rattle.std.proofs.Common.{ltb, rules, tests, ◌∙◌}
use Rattle.std.proofs.lemmas.Iterator.{YieldsList-from_slice}
use Rattle.std.proofs.lemmas.Iterator.Search.{any_from_yields_List}
use Rattle.ledger.specs.Ledger.{limit}
use Rattle.ledger.proofs.Above.{any_is}
use Rattle.ledger.proofs.has_above.Goals as goal

pub returns : goal.returns
returns c =
    any_from_yields_List (ltb limit) _ _ _ c.any.ensures.ran (YieldsList-from_slice c.args.table.now cc)
    (λ t b q k. search (rules, tests)) ∙
    any_is c.args.table.now cc
