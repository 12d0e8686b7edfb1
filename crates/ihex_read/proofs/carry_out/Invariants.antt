-- Each turn walks one line on and carries it out.
use Rattle.std.proofs.Common.{ℕ, ◌≡◌, List, length, drop}
use Rattle.ihex_read.specs.Reader.{lines_in, carried}
use Rattle.ihex_read.proofs.Walks.{Walk}
use Rattle.ihex_read.proofs.carry_out.Given as goal

-- the walk, and what is still to be done to the array
pub record Carrying (before text array rest : List ℕ) (upper : ℕ) : Type 0 where
  pub at : ℕ
  pub walk : Walk text (length before) at upper
  pub here : rest ≡ drop at text
  pub long : length array ≡ length before
  pub so_far : carried upper (lines_in rest) array ≡ carried 0 (lines_in text) before

abbrev pub invariant-loop-rest : goal.invariant-loop-rest
invariant-loop-rest l = Carrying l.initial.array l.text l.array l.rest l.upper

abbrev pub decreases-loop-rest : goal.decreases-loop-rest
decreases-loop-rest l = length l.rest
