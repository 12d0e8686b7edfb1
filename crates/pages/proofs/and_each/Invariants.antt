-- Each turn ANDs one byte more.
use Rattle.std.proofs.Common.{◌-◌, length, bit_and, get_or}
use Rattle.cells.proofs.Runs.{Reached}
use Rattle.pages.proofs.and_each.Given as goal

abbrev pub invariant-loop-i : goal.invariant-loop-i
invariant-loop-i l = Reached (λ k x. bit_and x (get_or l.sent (k - 0) 0)) 0 (length l.sent) l.initial.bytes l.i l.bytes
