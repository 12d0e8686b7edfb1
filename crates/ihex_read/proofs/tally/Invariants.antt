-- Each turn takes one pair more.
use Rattle.std.proofs.Common.{◌≡◌, ◌*◌, ◌≤◌, true}
use Rattle.ihex_layout.specs.Layout.{sum_of}
use Rattle.ihex_read.specs.Reader.{pairs}
use Rattle.ihex_read.proofs.tally.Given as goal

abbrev pub invariant-loop-k : goal.invariant-loop-k
invariant-loop-k l = record {
  tested : l.whole ≡ pairs l.rest l.k;
  adds_up : l.whole ≡ true → l.total ≡ sum_of l.rest l.k;
  small : l.total ≤ 714 * l.k;
}
