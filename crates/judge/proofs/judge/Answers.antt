-- `judge::judge` meets its contract: the steps are judging by the list. Assumes nothing.
use Rattle.std.proofs.Common.{rules, ◌≡◌, le-ltb}
use mathlib.Core.Bool.{false, not, ◌&&◌}
use mathlib.Core.Path.{ap}
use Rattle.device.specs.declared.Mode.TheVariants.{Awake}
use Rattle.device.specs.Device.{deep, ultra_deep}
use Rattle.judge.specs.Steps.{stepped}
use Rattle.judge.proofs.Steps.{by_steps}
use Rattle.judge.proofs.judge.Goals.{then-facts+else-not-row, else-facts}
use Rattle.judge.proofs.judge.Goals as goal

pub returns-in-Awake-2 : goal.returns-in-Awake-2
unfolding stepped
returns-in-Awake-2 c =
    let up : c.args.device.mode ≡ Awake = search rules in
    let heard : (c.args.facts.busy && not c.row_of-row.result.busy) ≡ false =
    elim c.if-facts.branch [
      | then-facts+else-not-row w ↦ search (rules, w.if-facts.true, w.if-not-row.false)
      | else-facts w ↦ search (rules, w.if-facts.false)
    ]
    in
    rw (
      by_steps _ _ _,
      ap ultra_deep up,
      ap deep up,
      le-ltb _ _ c.if-facts-lt8.false,
      rw c.row_of-row.ensures at heard,
      c.by_opcode.ensures,
      c.row_of-row.ensures,
    )
