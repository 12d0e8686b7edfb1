-- The laws of a series on memories: a step on memories is the step that is computed from its turn.
-- Assumes nothing.
use Prim.Native.Nat.{ℕ, ◌≤◌}
use mathlib.Core.Bool.{Bool, true, false, cond}
use mathlib.Core.List.{List, [], ◌∷◌}
use mathlib.Core.Logic.{◌≢◌}
use mathlib.Core.Path.{◌≡◌, refl, sym, ap, ◌∙◌}
use native.Mathlib.Omega.{arith}
use borrow.Author.Tests.{eqb-true, ne_eqb}
use lib.Dec.{eqb}
use Rattle.cells.specs.Each.{each}
use Rattle.std.specs.Prelude.{Ok, Err}
use Rattle.opcodes.specs.Rows.{row_of}
use Rattle.device.specs.declared.Device.{Device}
use Rattle.judge.specs.Begins.{asks_for}
use Rattle.refusals.proofs.Numbers.{never_0}
use Rattle.operations.specs.Operations.{Operation, cell_of, on_array, on_register}
use Rattle.part.specs.Frame.{Call, Lent, Result, Came, Meets, facts_of, judged_of, number_for, replied, frame}
use Rattle.part.specs.Frame as part
use Rattle.part.specs.Effect.{takes_effect, operation_of}
use Rattle.operations.proofs.Blocks.{operation_inside, once_inside}
use Rattle.part.proofs.Answers.{refused_leaves}
use Rattle.part.proofs.Effects.{only_then, then_always}
use Rattle.series.specs.Turns.{call_of, lengths_of, reply_to, effect_of, done_of, once_of}
use Rattle.series.specs.Series.{Step, State, returned, lent_to, result_of, left}
use Rattle.operations.specs.Bytes.{applied}
use Rattle.series.specs.Promises.{as_refused}
use Rattle.series.proofs.Lending.{length-lent, returned_each, returned_same}
use Rattle.series.proofs.Turns.{refusal_is, refused_reply, accepted_turn, effect_accepted}

-- What came of a call meets its contract if, with the record that it was handed, it is the frame's result. From a
-- refused call the frame returns the record of the call, so it was handed that one.
pub met : (c : Call) (m : Lent) (d : Device) (came : Came) (after : Lent) → part.result_of d came after ≡ frame c m
    → Meets c m came after
met c m d (Ok a) after e = e
met c m d (Err refusal) after e = ap (λ (d : Device). part.result_of d (Err refusal) after) (sym kept) ∙ e
  where
    kept : d ≡ c.device
    kept =
        ap (λ (r : Result). r.reply.device) e ∙
        (refused_leaves c m (λ z. never_0 refusal (ap (λ (r : Result). r.reply.refusal) e ∙ z))).0

module _ (s : Step) (t : State) where
  abbrev c : Call
  c = call_of s.turn t.device

  abbrev m : Lent
  m = lent_to s t

  pub same_lengths : part.lengths_of c m ≡ lengths_of s.turn
  same_lengths =
      rw
      (length-lent s.turn.array t.array s.behind.array, length-lent s.turn.register t.register s.behind.register, length-lent s.turn.output s.buffer s.behind.output)

  -- what comes back is what is computed
  pub reply_is : (result_of s t).reply ≡ reply_to s.turn t.device
  unfolding frame
  reply_is = ap (replied c) same_lengths

  -- the array is left with the operation carried out, if one takes effect
  pub array_is : (left (result_of s t) t).array ≡ applied (effect_of s.turn t.device) t.array
  unfolding applied
  array_is = by (takes_effect c (lengths_of s.turn)) refl
    where
      inside : takes_effect c (lengths_of s.turn) ≡ true → (k x : ℕ) → s.turn.array ≤ k → cell_of (operation_of c (lengths_of s.turn)) k x ≡ x
      inside e =
          operation_inside (asks_for (row_of (facts_of c).code).command) s.turn.array s.turn.input
          (accepted_turn s.turn t.device (effect_accepted s.turn t.device e)).array

      by : (b : Bool) → takes_effect c (lengths_of s.turn) ≡ b
          → returned (frame c m).lent.array t.array ≡ applied (cond b (operation_of c (lengths_of s.turn) ∷ []) []) t.array
      by true e =
          ap (λ (after : List ℕ). returned after t.array)
          ((then_always c m (ap (takes_effect c) same_lengths ∙ e)).0 ∙ ap (λ (o : Operation). each (cell_of o) m.array) (ap (operation_of c) same_lengths)) ∙
          returned_each (cell_of (operation_of c (lengths_of s.turn))) s.turn.array t.array s.behind.array (inside e)
      by false e =
          ap (λ (after : List ℕ). returned after t.array) (only_then c m (ap (takes_effect c) same_lengths ∙ e)) ∙ returned_same s.turn.array t.array s.behind.array

  -- it is left with what the action does to it
  pub done_is : (left (result_of s t) t).array ≡ applied (done_of s.turn t.device) t.array
  unfolding frame applied
  done_is =
      rw same_lengths (by (eqb (number_for c (lengths_of s.turn)) 0) (eqb-true (number_for c (lengths_of s.turn)) 0))
    where
      by : (b : Bool) → (b ≡ true → number_for c (lengths_of s.turn) ≡ 0)
          → returned (cond b (part.lent_after c m) m).array t.array
          ≡ applied (cond b (on_array (judged_of c).action s.turn.array s.turn.input ∷ []) []) t.array
      by true z =
          let listed = (accepted_turn s.turn t.device (refusal_is s.turn t.device ∙ z refl)).array in
          rw (length-lent s.turn.array t.array s.behind.array)
          (returned_each (cell_of (on_array (judged_of c).action s.turn.array s.turn.input)) s.turn.array
          t.array s.behind.array
          (operation_inside (judged_of c).action s.turn.array s.turn.input listed))
      by false z = returned_same s.turn.array t.array s.behind.array

  -- and the register likewise
  pub register_is : (left (result_of s t) t).register ≡ applied (once_of s.turn t.device) t.register
  unfolding frame applied
  register_is = rw same_lengths (by (eqb (number_for c (lengths_of s.turn)) 0) (eqb-true (number_for c (lengths_of s.turn)) 0))
    where
      by : (b : Bool) → (b ≡ true → number_for c (lengths_of s.turn) ≡ 0)
          → returned (cond b (part.lent_after c m) m).register t.register
          ≡ applied (cond b (on_register (judged_of c).action s.turn.input ∷ []) []) t.register
      by true z =
          let long : s.turn.register ≡ 128 = (accepted_turn s.turn t.device (refusal_is s.turn t.device ∙ z refl)).register in
          returned_each (cell_of (on_register (judged_of c).action s.turn.input)) s.turn.register t.register s.behind.register
          (λ k x l. once_inside (judged_of c).action s.turn.input k x (omega arith))
      by false z = returned_same s.turn.register t.register s.behind.register

  -- a refused step answers with its number and leaves all as it was
  pub refused_result : (reply_to s.turn t.device).refusal ≢ 0 → result_of s t ≡ as_refused s t
  unfolding frame
  refused_result n =
      rw (same_lengths, ne_eqb (number_for c (lengths_of s.turn)) 0 (λ e. n (refusal_is s.turn t.device ∙ e)))
      (ap (λ (r : part.Reply). record { reply = r; lent = m }) (refused_reply s.turn t.device n))

  pub refused_left : (reply_to s.turn t.device).refusal ≢ 0 → left (result_of s t) t ≡ t
  refused_left n =
      rw (refused_result n) (rw (returned_same s.turn.array t.array s.behind.array, returned_same s.turn.register t.register s.behind.register))
