-- A frame takes effect on the array exactly when demand 2 says. Assumes nothing.
use Prim.Native.Nat.{ℕ}
use Prim.Native.String.{String}
use mathlib.Core.Bool.{Bool, true, false, true≢false, false≢true, cond, ◌&&◌}
use mathlib.Core.List.{List}
use mathlib.Core.Logic.{◌≢◌}
use mathlib.Core.Path.{◌≡◌, refl, sym, ap, ◌∙◌}
use lib.Dec.{eqb}
use lib.ListN.{length, get_or}
use lib.Text.{eqt}
use Rattle.cells.specs.Each.{each}
use Rattle.cells.proofs.Places.{each_same}
use Rattle.opcodes.specs.Rows.{row_of}
use Rattle.judge.specs.declared.Action.{Action}
use Rattle.opcodes.specs.Kinds.{means_array}
use Rattle.judge.specs.Begins.{changes_array, ready, lasts}
use Rattle.judge.proofs.Begins.{exactly_when}
use Rattle.judge.proofs.Leaves.{as_asked, begun_acts, full_duration}
use Rattle.part.specs.Words.{word_of}
use Rattle.operations.specs.Operations.{cell_of, on_array}
use Rattle.part.specs.Frame.{Call, Lent, lengths_of, number_for, risen, facts_of, judged_of, covered_by, answered}
use Rattle.part.specs.Frame.{refused, replied, frame}
use Rattle.part.specs.Effect.{takes_effect, operation_of}
use Rattle.part.proofs.Answers.{begun_tells}

module _ (c : Call) (m : Lent) where
  -- judging begins an operation on the array when the frame is ready
  pub begins : changes_array (judged_of c).action ≡ ready (risen c) (facts_of c)
  unfolding judged_of
  begins = exactly_when (risen c) c.settings (facts_of c)

  -- an action that does not change the array leaves it alone
  idle : (a : Action) → changes_array a ≡ false → each (cell_of (on_array a (length m.array) c.input)) m.array ≡ m.array
  idle Action.Still e = sym (each_same m.array)
  idle (Action.Drive source) e = sym (each_same m.array)
  idle Action.Program e = absurd (true≢false e)
  idle (Action.Erase region) e = absurd (true≢false e)
  idle Action.Otp e = sym (each_same m.array)

  -- only then: the array stays, unless the frame takes effect
  pub only_then : takes_effect c (lengths_of c m) ≡ false → (frame c m).lent.array ≡ m.array
  unfolding frame
  only_then e = by (eqb (number_for c (lengths_of c m)) 0) refl e
    where
      by : (b : Bool) → eqb (number_for c (lengths_of c m)) 0 ≡ b → (b && ready (risen c) (facts_of c)) ≡ false → (frame c m).lent.array ≡ m.array
      by true t e = rw t (idle (judged_of c).action (begins ∙ e))
      by false t e = rw t

  -- a byte that is not what it was tells that it did
  pub changed_then : (k : ℕ) → get_or (frame c m).lent.array k 0 ≢ get_or m.array k 0 → takes_effect c (lengths_of c m) ≡ true
  changed_then k d = by (takes_effect c (lengths_of c m)) refl
    where
      by : (b : Bool) → takes_effect c (lengths_of c m) ≡ b → b ≡ true
      by true e = refl
      by false e = absurd (d (ap (λ (xs : List ℕ). get_or xs k 0) (only_then e)))

  -- and then always: the operation that the opcode asks for is carried out, and the outcome is begun
  pub then_always : takes_effect c (lengths_of c m) ≡ true → ((frame c m).lent.array ≡ each (cell_of (operation_of c (lengths_of c m))) m.array) × ((frame c m).reply.outcome ≡ "begun")
  unfolding frame replied judged_of
  then_always e = by (eqb (number_for c (lengths_of c m)) 0) refl e
    where
      by : (b : Bool) → eqb (number_for c (lengths_of c m)) 0 ≡ b → (b && ready (risen c) (facts_of c)) ≡ true
          → ((frame c m).lent.array ≡ each (cell_of (operation_of c (lengths_of c m))) m.array) × ((frame c m).reply.outcome ≡ "begun")
      by true t e =
          let w = as_asked (risen c) c.settings (facts_of c) (begins ∙ e) in
          rw t (ap (λ (a : Action). each (cell_of (on_array a (length m.array) c.input)) m.array) w.0, ap word_of w.1)
      by false t e = absurd (false≢true e)

  -- a program or an erase of the array that is reported as begun took effect
  pub begun_took_effect : means_array (row_of (facts_of c).code).command ≡ true → (frame c m).reply.outcome ≡ "begun"
      → takes_effect c (lengths_of c m) ≡ true
  unfolding frame replied judged_of
  begun_took_effect means e = by (eqb (number_for c (lengths_of c m)) 0) e
    where
      by : (b : Bool)
          → (cond b (answered (judged_of c) (covered_by (judged_of c) c (lengths_of c m)))
          (refused (number_for c (lengths_of c m)) c.device)).outcome ≡ "begun"
          → (b && ready (risen c) (facts_of c)) ≡ true
      by true e =
          sym begins ∙
          begun_acts (risen c) c.settings (facts_of c) (begun_tells (judged_of c).outcome e) means
      by false e = absurd (true≢false (ap (λ (w : String). eqt w "nothing") e))

  -- what is begun, on whatever memory, takes its full duration from the rise on: neither the ticks elapsed nor the frame's come off it
  pub begun_lasts : (frame c m).reply.outcome ≡ "begun" → (frame c m).reply.device.busy ≡ lasts (row_of (facts_of c).code).command c.settings (facts_of c)
  unfolding frame replied judged_of
  begun_lasts e = by (eqb (number_for c (lengths_of c m)) 0) e
    where
      lasts_for_lem : ℕ
      lasts_for_lem = lasts (row_of (facts_of c).code).command c.settings (facts_of c)

      by : (b : Bool)
          → (cond b (answered (judged_of c) (covered_by (judged_of c) c (lengths_of c m)))
          (refused (number_for c (lengths_of c m)) c.device)).outcome ≡ "begun"
          → (cond b (answered (judged_of c) (covered_by (judged_of c) c (lengths_of c m))) (refused (number_for c (lengths_of c m)) c.device)).device.busy ≡ lasts_for_lem
      by true e = full_duration (risen c) c.settings (facts_of c) (begun_tells (judged_of c).outcome e)
      by false e = absurd (true≢false (ap (λ (w : String). eqt w "nothing") e))
