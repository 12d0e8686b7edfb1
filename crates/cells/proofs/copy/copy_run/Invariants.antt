-- Each turn copies one byte more.
use Rattle.std.proofs.Common.{◌+◌, ◌-◌, get_or}
use Rattle.cells.proofs.Runs.{Reached}
use Rattle.cells.proofs.copy.copy_run.Given as goal

abbrev pub invariant-loop-at : goal.invariant-loop-at
invariant-loop-at l = Reached (λ k x. get_or l.memory (l.start + (k - l.from)) 0) l.from l.to l.initial.output l.at l.output
