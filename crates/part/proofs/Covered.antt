-- The range of the array that a call covers: outside it no byte changed, and it is empty exactly if nothing took effect. Assumes nothing.
use Prim.Native.Nat.{ℕ}
use mathlib.Core.Bool.{Bool, true, false}
use mathlib.Core.Path.{◌≡◌, refl, ◌∙◌}
use borrow.Author.Tests.{eqb-true}
use lib.Dec.{ltb, eqb}
use lib.ListN.{length, get_or}
use Rattle.cells.specs.Range.{range}
use Rattle.cells.proofs.Places.{stays}
use Rattle.calls.proofs.Accepting.{accepted}
use Rattle.operations.specs.Operations.{cell_of, on_array}
use Rattle.operations.proofs.Ranges.{outside, holds_a_place}
use Rattle.part.specs.Frame.{Call, Lent, lengths_of, number_for, judged_of, replied, frame}
use Rattle.part.specs.Effect.{takes_effect}
use Rattle.part.proofs.Effects.{begins}

module _ (c : Call) (m : Lent) where
  abbrev number : ℕ
  number = number_for c (lengths_of c m)

  -- the place k lies in the range
  abbrev inside : ℕ → Bool
  inside k = range (frame c m).reply.covered.from (frame c m).reply.covered.to k

  -- outside it no byte of the array changed
  pub outside_stays : (k d : ℕ) → inside k ≡ false → get_or (frame c m).lent.array k d ≡ get_or m.array k d
  unfolding frame replied
  outside_stays k d e = by (eqb number 0) refl e
    where
      by : (b : Bool) → eqb number 0 ≡ b → inside k ≡ false → get_or (frame c m).lent.array k d ≡ get_or m.array k d
      by true t e =
          let o = on_array (judged_of c).action (length m.array) c.input in
          rw t (stays (cell_of o) m.array k d (λ x. outside o k x (rw t at e)))
      by false t e = rw t

  -- it is empty exactly if nothing took effect on the array
  pub empty_exactly : ltb (frame c m).reply.covered.from (frame c m).reply.covered.to ≡ takes_effect c (lengths_of c m)
  unfolding frame replied number_for
  empty_exactly = by (eqb number 0) refl
    where
      by : (b : Bool) → eqb number 0 ≡ b → ltb (frame c m).reply.covered.from (frame c m).reply.covered.to ≡ takes_effect c (lengths_of c m)
      by true t =
          rw t
          (holds_a_place (judged_of c).action (length m.array) c.input (accepted c.device c.settings c.signals (lengths_of c m) (eqb-true number 0 t)).array ∙
          begins c m)
      by false t = rw t
