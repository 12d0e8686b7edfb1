-- A test of every place of a range, without going through them one by one: where the test is known to be steady over a range, one
-- place of it is enough, else the range is halved. Assumes nothing.
use Prim.Native.Nat.{ℕ, zero, suc, ◌+◌, ◌^◌, ◌<◌, ◌≤◌}
use mathlib.Core.Bool.{Bool, true, false, ◌&&◌, and-eq-true_iff}
use mathlib.Core.Path.{◌≡◌, refl, ap, ◌∙◌}
use native.Mathlib.Decide.{dec_lt}
use native.Mathlib.Nat.{pow-suc}
use native.Mathlib.Omega.{arith}
use Rattle.worked.proofs.Computed.{everywhere, halved}

module _ (test : ℕ → Bool) (steady : ℕ → ℕ → Bool) (sound : (low n k : ℕ) → steady low n ≡ true → low ≤ k → k < low + n → test k ≡ test low) where
  pub at_each : (h low k : ℕ) → everywhere test steady h low ≡ true → low ≤ k → k < low + 2 ^ h → test k ≡ true
  unfolding everywhere halved
  at_each zero low k t p q = let e : k ≡ low = omega arith in ap test e ∙ t
  at_each (suc h) low k t p q = by (steady low (2 ^ suc h)) refl t (at_each h low k) (at_each h (low + 2 ^ h) k) (dec_lt k (low + 2 ^ h))
    where
      by : (b : Bool) → steady low (2 ^ suc h) ≡ b
          → halved b (test low) (λ u. everywhere test steady h low && everywhere test steady h (low + 2 ^ h)) ≡ true
          → (everywhere test steady h low ≡ true → low ≤ k → k < low + 2 ^ h → test k ≡ true)
          → (everywhere test steady h (low + 2 ^ h) ≡ true → low + 2 ^ h ≤ k → k < low + 2 ^ h + 2 ^ h → test k ≡ true)
          → Dec (k < low + 2 ^ h)
          → test k ≡ true
      by true s t left right d = sound low (2 ^ suc h) k s p q ∙ t
      by false s t left right (yes l) = left ((and-eq-true_iff (everywhere test steady h low) (everywhere test steady h (low + 2 ^ h))).0 t).0 p l
      by false s t left right (no l) =
          right ((and-eq-true_iff (everywhere test steady h low) (everywhere test steady h (low + 2 ^ h))).0 t).1 (omega arith) (omega (arith, pow-suc 2 h))
