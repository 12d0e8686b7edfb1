-- Each turn loads one straight run more, the last one as long as what is left.
use Rattle.std.proofs.Common.{◌≡◌, ℕ, length, drop}
use Rattle.std.specs.Slice.Iter.{chunks_rest, chunks_size}
use Rattle.pages.proofs.Loads.{Loading}
use Rattle.pages.proofs.load.Given as goal

abbrev pub invariant-loop-part : goal.invariant-loop-part
invariant-loop-part l = record {
  can_next : goal.iterator-loop-part.can_next l.part-iterator;
  is_finite : goal.iterator-loop-part.is_finite l.part-iterator;
  size : chunks_size l.part-iterator ≡ length l.fn.buffer;
  loading : (at : ℕ) × (chunks_rest l.part-iterator ≡ drop at l.sent) × Loading (length l.fn.buffer) l.start l.sent l.fn.buffer at 0 l.buffer;
}
