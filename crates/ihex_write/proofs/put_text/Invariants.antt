-- Each turn writes one row more.
use Rattle.std.proofs.Common.{◌-◌, length}
use Rattle.ihex_write.proofs.Ahead.{Writing}
use Rattle.ihex_write.proofs.put_text.Given as goal

abbrev pub invariant-loop-from : goal.invariant-loop-from
invariant-loop-from l = Writing l.array l.initial.output l.at l.from l.output

abbrev pub decreases-loop-from : goal.decreases-loop-from
decreases-loop-from l = length l.array - l.from
