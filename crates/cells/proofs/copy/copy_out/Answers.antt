-- `cells::copy::copy_out` meets its contract: one straight run, and each turn one run of the whole memory more. Assumes nothing.
use Rattle.std.proofs.Common.{◌≡◌, ◌+◌, min, arith}
use Rattle.cells.proofs.Runs.{ends}
use Rattle.cells.proofs.Wraps.{copy_begins, copies_on, turns_on}
use Rattle.cells.proofs.copy.copy_out.Goals as goal

pub loop-at-init : goal.loop-at-init
loop-at-init c =
    let a = c.args in
    let begun = copy_begins a.memory.now a.start a.from a.to a.output.now (omega arith) (omega arith) in
    let here : min (a.from + c.min.result) a.to ≡ a.from + c.min.result = omega arith in
    rw here (copies_on begun _ _ c.min.ensures c.copy_run.ensures)

pub loop-at-preserved : goal.loop-at-preserved
loop-at-preserved c = turns_on c.loop-at.invariant c.loop-at-test.true _ _ c.min-in-loop-at.ensures c.copy_run-in-loop-at.ensures

pub returns-2 : goal.returns-2
returns-2 c =
    ends (turns_on c.loop-at.invariant c.loop-at-test.true _ _ c.min-in-loop-at.ensures c.copy_run-in-loop-at.ensures).reached (omega arith)
