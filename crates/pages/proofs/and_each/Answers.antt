-- `pages::and_each` meets its contract: each turn ANDs one byte more, read as it was. Assumes nothing.
use Rattle.std.proofs.Common.{◌≡◌, ◌-◌, arith}
use Rattle.cells.proofs.Runs.{begins, same_long, next_read, goes_on}
use Rattle.pages.proofs.and_each.Goals as goal

pub loop-i-init : goal.loop-i-init
loop-i-init c = begins _ _ _ _ (omega arith)

pub loop-i-preserved : goal.loop-i-preserved
loop-i-preserved c =
    let r = c.loop-i.invariant in
    let here : c.loop-i.i - 0 ≡ c.loop-i.i = omega arith in
    goes_on r _ (omega arith) (omega (arith, same_long r)) (rw (next_read r 0, here))
