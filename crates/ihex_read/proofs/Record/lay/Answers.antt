-- `ihex_read::Record::lay` meets its contract: each turn lays one byte more. Assumes nothing.
use Rattle.std.proofs.Common.{arith}
use Rattle.cells.proofs.Runs.{begins, goes_on, ends, same_long}
use Rattle.ihex_read.proofs.Record.lay.Goals as goal

pub loop-i-init : goal.loop-i-init
loop-i-init c = begins _ _ _ _ (omega arith)

pub byte-requires-in-loop-i : goal.byte-requires-in-loop-i
byte-requires-in-loop-i c = omega (arith, c.byte.ensures, c.loop-i.invariant.low, c.loop-i-test.true)

pub bounds-array-i : goal.bounds-array-i
bounds-array-i c =
    let more = c.loop-i-test.true in
    let fits = c.requires.1 (omega (arith, c.byte.ensures, c.loop-i.invariant.low, more)) in
    omega (arith, fits, c.byte.ensures, more, same_long c.loop-i.invariant)

pub loop-i-preserved : goal.loop-i-preserved
loop-i-preserved c =
    let more = c.loop-i-test.true in
    let fits = c.requires.1 (omega (arith, c.byte.ensures, c.loop-i.invariant.low, more)) in
    goes_on c.loop-i.invariant _ more (omega (arith, fits, c.byte.ensures, more)) c.byte-in-loop-i.ensures

pub returns : goal.returns
returns c = rw (c.from.ensures, c.byte.ensures) at (ends c.loop-i.invariant c.loop-i-test.false)
