-- It is the largest of the words so far.
use Rattle.std.proofs.Common.{◌≡◌, length}
use Rattle.watch.specs.Watch.{top_before}
use Rattle.watch.proofs.largest.Given as goal

abbrev pub invariant-loop-total : goal.invariant-loop-total
invariant-loop-total l = l.top ≡ top_before (length l.yielded) l.totals l.numbers
