-- The laws of `sets`: a list is stored from a place on, piece by piece. Assumes nothing.
use Prim.Native.Nat.{ℕ, suc, ◌+◌}
use mathlib.Core.List.{List, [], ◌∷◌, ◌++◌}
use mathlib.Core.Path.{◌≡◌, ap, ◌∙◌}
use native.Mathlib.Omega.{arith}
use lib.ListN.{length, set}
use lib.Seq.{sets, length-sets}

-- a list stored straight behind another one is both stored at once
pub sets_join : (l : List ℕ) (i j : ℕ) (vs ws : List ℕ) → j ≡ i + length vs → sets (sets l i vs) j ws ≡ sets l i (vs ++ ws)
sets_join l i j [] ws e = let f : j ≡ i = omega arith in rw f
sets_join l i j (v ∷ vs) ws e = sets_join (set l i v) (suc i) j vs ws (omega arith)

-- The list vs has been stored in xs from the place `at` on: xs has become ys.
pub record Received (xs : List ℕ) (at : ℕ) (vs ys : List ℕ) : Type 0 where
  pub whole : ys ≡ sets xs at vs

module _ {xs vs ys : List ℕ} {at : ℕ} (r : Received xs at vs ys) where
  -- the length stays
  pub same_long : length ys ≡ length xs
  same_long = ap length r.whole ∙ length-sets xs at vs

  -- one piece more, straight behind the others
  pub one_more : (j : ℕ) (ws : List ℕ) {zs : List ℕ} → zs ≡ sets ys j ws → j ≡ at + length vs → Received xs at (vs ++ ws) zs
  one_more j ws z e = record { whole = z ∙ (ap (λ (l : List ℕ). sets l j ws) r.whole ∙ sets_join xs at j vs ws e) }
