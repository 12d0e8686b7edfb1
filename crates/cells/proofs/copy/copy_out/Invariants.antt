-- Each turn copies one straight run more.
use Rattle.std.proofs.Common.{min}
use Rattle.cells.proofs.Wraps.{Copying}
use Rattle.cells.proofs.copy.copy_out.Given as goal

abbrev pub invariant-loop-at : goal.invariant-loop-at
invariant-loop-at l = Copying l.memory l.start l.from l.to l.fn.output (min l.at l.to) 0 l.output
