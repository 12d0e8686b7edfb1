-- `opcodes::row_of` meets its contract: what the library finds is what the definition looks up. Assumes nothing.
use Rattle.std.proofs.Common.{Bor, rules, tests, eqb, ap, ◌∙◌}
use Rattle.std.proofs.lemmas.Iterator.{YieldsList-from_slice}
use Rattle.std.proofs.lemmas.Iterator.Search.{find_from_yields_List}
use Rattle.opcodes.specs.declared.Row.{Row}
use Rattle.opcodes.proofs.Lookup.{coded, first_is_looked_up, seen}
use Rattle.opcodes.specs.Rows.{rows, row_of}
use Rattle.opcodes.proofs.row_of.Goals as goal

pub returns : goal.returns
unfolding row_of rows
returns c =
    let code = c.args.code in
    let found =
    find_from_yields_List (λ r. eqb r.code code) _ _ _ c.find.ensures.ran (YieldsList-from_slice rows cc)
    (λ x b q k. search (rules, tests)) in
    ap (λ (row : Bor Row). coded code row.now) c.unwrap_or-row.ensures ∙
    (ap (coded code) (seen c.find.result _ _ found) ∙ first_is_looked_up rows code)
