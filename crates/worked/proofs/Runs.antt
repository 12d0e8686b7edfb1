-- A series on memories that are told: what comes back and what it leaves are computed from lengths, frames and operations, without the
-- list of a memory's bytes. Assumes nothing.
use Prim.Native.Nat.{ℕ, ◌<◌}
use mathlib.Core.Bool.{Bool, true, false, cond}
use mathlib.Core.List.{List, [], ◌∷◌, map}
use mathlib.Core.Path.{◌≡◌, refl, sym, ap, ◌∙◌}
use lib.Dec.{eqb}
use lib.ListN.{length}
use Rattle.runs.specs.Run as run
use Rattle.runs.proofs.Laws.{end_forgets, kept}
use Rattle.part.specs.Frame.{Call, Lent, lent, stands_at, judged_of, number_for, frame}
use Rattle.part.specs.Frame as part
use Rattle.series.specs.Turns.{call_of, lengths_of, done_of, once_of}
use Rattle.series.specs.Series as series
use Rattle.series.specs.Series.{Step, State, lent_to, result_of, left, results, end}
use Rattle.series.proofs.Lending.{lent_all}
use Rattle.series.proofs.Steps.{same_lengths, reply_is, done_is, register_is}
use Rattle.worked.specs.Worked.{Came, came_of}
use Rattle.worked.proofs.Computed.{Scene, told_store, written, came_told, next, all_told, end_told}
use Rattle.worked.proofs.Told.{memory_of, length-told, goes_on, read_told}

abbrev pub state_of : Scene → State
state_of t = record { device = t.device; array = memory_of t.array; register = memory_of t.register }

-- the step lends its memories whole
pub record Whole (size other : ℕ) (s : Step) : Type 0 where
  pub array : s.turn.array ≡ size
  pub register : s.turn.register ≡ other
  pub output : s.turn.output ≡ length s.buffer

-- what the step leaves
left_told : (s : Step) (t : Scene) → left (result_of s (state_of t)) (state_of t) ≡ state_of (next s t)
unfolding next
left_told s t =
    rw (
      reply_is s (state_of t),
      done_is s (state_of t),
      register_is s (state_of t),
      goes_on (done_of s.turn t.device)
          t.array,
      goes_on (once_of s.turn t.device) t.register,
    )

module _ (s : Step) (t : Scene) (has : 0 < t.array.content.size) (holds : 0 < t.register.content.size)
    (whole : Whole t.array.content.size t.register.content.size s) where
  abbrev c : Call
  c = call_of s.turn t.device

  lent_told : lent_to s (state_of t) ≡ lent (memory_of t.array) (memory_of t.register) s.buffer
  lent_told =
      rw (
        lent_all s.turn.array (memory_of t.array) s.behind.array (whole.array ∙ sym (length-told t.array)),
        lent_all s.turn.register (memory_of t.register) s.behind.register (whole.register ∙ sym (length-told t.register)),
        lent_all s.turn.output s.buffer s.behind.output whole.output,
      )

  output_told : (result_of s (state_of t)).lent.output
      ≡ cond (eqb (number_for c (lengths_of s.turn)) 0) (written c (told_store t.array) (told_store t.register) s.buffer) s.buffer
  unfolding frame
  output_told =
      rw (same_lengths s (state_of t))
      (ap (λ (m : Lent). (cond (eqb (number_for c (lengths_of s.turn)) 0) (part.lent_after c m) m).output) lent_told ∙
      by (eqb (number_for c (lengths_of s.turn)) 0))
    where
      by : (b : Bool)
          → (cond b (part.lent_after c (lent (memory_of t.array) (memory_of t.register) s.buffer)) (lent (memory_of t.array) (memory_of t.register) s.buffer)).output
          ≡ cond b (written c (told_store t.array) (told_store t.register) s.buffer) s.buffer
      by true = read_told t.array t.register has holds (judged_of c) (stands_at c) c.signals.wp c.signals.bits c.input s.buffer
      by false = refl

  came_told_lem : came_of (result_of s (state_of t)) ≡ came_told s t
  unfolding came_told
  came_told_lem = rw (reply_is s (state_of t), output_told)

-- every step of a list lends its memories whole
unfoldable pub AllWhole : ℕ → ℕ → List Step → Type 0
AllWhole size other [] = Unit
AllWhole size other (s ∷ ss) = Whole size other s × AllWhole size other ss

pub all_told_lem : (ss : List Step) (t : Scene) → 0 < t.array.content.size → 0 < t.register.content.size
    → AllWhole t.array.content.size t.register.content.size ss → map came_of (results ss (state_of t))
    ≡ all_told ss t
unfolding run.gathered next AllWhole
all_told_lem [] t has holds whole = refl
all_told_lem (s ∷ ss) t has holds whole =
    rw (came_told_lem s t has holds whole.0, left_told s t) (ap (λ (cs : List Came). came_told s t ∷ cs) (all_told_lem ss (next s t) has holds whole.1))

pub end_told_lem : (ss : List Step) (t : Scene) → end ss (state_of t) ≡ state_of (end_told ss t)
end_told_lem ss t = sym (end_forgets next series.next state_of (λ s t. sym (left_told s t)) ss t)

-- what the memories held at first stays
pub end_content : (ss : List Step) (t : Scene) → ((end_told ss t).array.content ≡ t.array.content)
    × ((end_told ss t).register.content ≡ t.register.content)
unfolding next
end_content ss t =
    kept next (λ (u : Scene). (u.array.content ≡ t.array.content) × (u.register.content ≡ t.register.content))
    (λ s u p. p) ss t (refl, refl)
