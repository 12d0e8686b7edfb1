-- As long as a table's bits are not above the limit, no word of it so far is.
use Rattle.std.proofs.Common.{length}
use Rattle.ledger.proofs.Above.{Low}
use Rattle.ledger.proofs.gathered.Given as goal

abbrev pub invariant-loop-word : goal.invariant-loop-word
invariant-loop-word l = Low (length l.yielded) l.one l.table × Low (length l.yielded) l.two l.also
