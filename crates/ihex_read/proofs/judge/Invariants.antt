-- Each turn walks one line on.
use Rattle.std.proofs.Common.{◌-◌, length}
use Rattle.ihex_read.proofs.Walks.{Walk}
use Rattle.ihex_read.proofs.judge.Given as goal

abbrev pub invariant-loop-at : goal.invariant-loop-at
invariant-loop-at l = Walk l.text l.size l.at l.upper

abbrev pub decreases-loop-at : goal.decreases-loop-at
decreases-loop-at l = length l.text - l.at
