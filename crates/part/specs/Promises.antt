-- Demands 1 and 2, sentence by sentence: what holds of any call. To read it: c is a call, m and n are lent memories, a
-- is what comes of a call, k is a place of the array. Assumes nothing.
use Rattle.std.specs.Prelude.{ℕ, true, false, not, ◌&&◌, ◌≢◌, ◌≡◌, ltb, eqb, get_or, Some, is_none}
use lib.Text.{eqt}
use Rattle.cells.specs.Each.{each}
use Rattle.cells.specs.Range.{range}
use Rattle.opcodes.specs.Rows.{row_of}
use Rattle.opcodes.specs.Kinds.{means_array}
use Rattle.judge.specs.Causes.{cause_words, causes, IsFirst}
use Rattle.judge.specs.declared.Cause.{Cause}
use Rattle.judge.specs.Bare.{uncaused, bare}
use Rattle.refusals.specs.Refusals.{number_in}
use Rattle.calls.specs.Refusal.{refusal_of}
use Rattle.operations.specs.Operations.{cell_of}
use Rattle.part.specs.Frame.{Call, Lent, lengths_of, number_for, risen, facts_of, judged_of, refused, frame}
use Rattle.part.specs.Frame.{Came, Meets}
use Rattle.part.specs.Cause.{is_stopped, holds_of, cause_for}
use Rattle.part.specs.Effect.{takes_effect, operation_of}
use Rattle.part.specs.Busy.{lasts_for, busy_after}
use Rattle.part.specs.Frozen.{frozen}

pub record Promises : Type 0 where
  -- Any bytes, bit count, level, ticks and lent memory may be handed in: the contract of a call admits one answer,
  pub one_answer : (c : Call) (m : Lent) (a b : Came) (n o : Lent) → Meets c m a n → Meets c m b o → (a ≡ b) × (n ≡ o)
  -- and there is one.
  pub some_answer : (c : Call) (m : Lent) → (a : Came) × (n : Lent) × Meets c m a n
  -- A refusal is given exactly when the papers' list says, the lowest number first, and is 0 if none applies.
  pub refused_exactly : (c : Call) (m : Lent) → (frame c m).reply.refusal
      ≡ number_in (refusal_of c.device c.settings c.signals (lengths_of c m))
  -- A refused call reports its number and leaves record, array, security register and output buffer unchanged.
  pub refused_leaves : (c : Call) (m : Lent) → (frame c m).reply.refusal ≢ 0
      → frame c m ≡ record { reply = refused (frame c m).reply.refusal c.device; lent = m }
  -- What comes back is computed from the call and the lengths of what is lent, never from stored bytes.
  pub never_from_stored_bytes : (c : Call) (m n : Lent) → lengths_of c m ≡ lengths_of c n → (frame c m).reply
      ≡ (frame c n).reply
  -- An array byte changes only if the call is accepted and its frame is a program or an erase, complete, on a boundary,
  -- write-enabled, and the part is awake, idle at the frame's first bit and unprotected.
  pub only_then : (c : Call) (m : Lent) → takes_effect c (lengths_of c m) ≡ false → (frame c m).lent.array ≡ m.array
  pub changed_then : (c : Call) (m : Lent) (k : ℕ) → get_or (frame c m).lent.array k 0 ≢ get_or m.array k 0
      → takes_effect c (lengths_of c m) ≡ true
  -- If all of that holds, the operation that the opcode asks for takes effect and is reported as begun;
  pub then_always : (c : Call) (m : Lent) → takes_effect c (lengths_of c m) ≡ true
      → ((frame c m).lent.array ≡ each (cell_of (operation_of c (lengths_of c m))) m.array)
      × ((frame c m).reply.outcome ≡ "begun")
  -- and a program or an erase of the array that is reported as begun took effect.
  pub begun_took_effect : (c : Call) (m : Lent) → means_array (row_of (facts_of c).code).command ≡ true
      → (frame c m).reply.outcome ≡ "begun"
      → takes_effect c (lengths_of c m) ≡ true
  -- That is exactly when the call is accepted, its frame is a program or an erase of the array, and no cause holds.
  pub no_cause_exactly : (c : Call) (m : Lent) → takes_effect c (lengths_of c m)
      ≡ (eqb (number_for c (lengths_of c m)) 0 && (is_none (cause_for c) && means_array (row_of (facts_of c).code).command))
  -- An accepted call of which nothing comes, or which is aborted, has one cause: the first of the request's list that
  -- holds.
  pub first_cause : (c : Call) (m : Lent) → (frame c m).reply.refusal ≡ 0 → is_stopped (frame c m).reply ≡ true
      → (cause : Cause) × ((frame c m).reply.cause ≡ cause_words cause) × (cause_for c ≡ Some cause) ×
      IsFirst (holds_of c) causes cause
  -- A refused call has none, nor has a read, a control or what is begun; every other has one.
  pub none_exactly : (c : Call) (m : Lent) → eqt (frame c m).reply.cause "none"
      ≡ not (eqb (frame c m).reply.refusal 0 && is_stopped (frame c m).reply)
  -- With the causes struck out an accepted call is judged as it was before there were any.
  pub nothing_else_moved : (c : Call) (m : Lent) → (frame c m).reply.refusal ≡ 0
      → uncaused (judged_of c) ≡ bare (risen c) c.settings (facts_of c)
  -- What is begun, on whatever memory, takes its full duration from the rise on.
  pub begun_lasts : (c : Call) (m : Lent) → (frame c m).reply.outcome ≡ "begun" → (frame c m).reply.device.busy
      ≡ lasts_for c
  -- The busy ticks that an accepted call leaves: all of an operation that it began, none after a reset, and otherwise
  -- what its ticks left.
  pub busy_is : (c : Call) (m : Lent) → (frame c m).reply.refusal ≡ 0 → (frame c m).reply.device.busy
      ≡ busy_after c (frame c m).reply
  -- Outside the range that the answer names no array byte changed, and that range is empty exactly if nothing took
  -- effect.
  pub outside_stays : (c : Call) (m : Lent) (k d : ℕ)
      → range (frame c m).reply.covered.from (frame c m).reply.covered.to k ≡ false
      → get_or (frame c m).lent.array k d ≡ get_or m.array k d
  pub empty_exactly : (c : Call) (m : Lent) → ltb (frame c m).reply.covered.from (frame c m).reply.covered.to
      ≡ takes_effect c (lengths_of c m)
  -- With 0 ticks per byte position a frame is document 01's, which takes no time.
  pub takes_no_time : (c : Call) (m : Lent) → c.signals.pace ≡ 0 → frame c m ≡ frozen c m
