-- `cells::copy::copy_run` meets its contract: each turn copies one byte more. Assumes nothing.
use Rattle.std.proofs.Common.{refl, arith}
use Rattle.cells.proofs.Runs.{begins, same_long, goes_on, ends}
use Rattle.cells.proofs.copy.copy_run.Goals as goal

pub loop-at-init : goal.loop-at-init
loop-at-init c = begins _ _ _ _ (omega arith)

pub loop-at-preserved : goal.loop-at-preserved
loop-at-preserved c = goes_on c.loop-at.invariant _ (omega arith) (omega (arith, same_long c.loop-at.invariant)) refl

pub returns : goal.returns
returns c = ends c.loop-at.invariant (omega arith)
