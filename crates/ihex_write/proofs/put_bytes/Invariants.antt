-- Each turn writes one byte more.
use Rattle.ihex_write.proofs.Digits.{Spelled}
use Rattle.ihex_write.proofs.put_bytes.Given as goal

abbrev pub invariant-loop-i : goal.invariant-loop-i
invariant-loop-i l = Spelled l.bytes l.initial.output l.at l.i l.output l.total
