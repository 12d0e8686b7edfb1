-- What the test of all durations says of each, and what settings that are not refused say of each. Assumes nothing.
use Prim.Native.Nat.{ℕ, zero, suc}
use mathlib.Core.Bool.{Bool, true, false, true≢false, ◌||◌}
use mathlib.Core.List.{List, [], ◌∷◌}
use mathlib.Core.Path.{◌≡◌, refl, ap}
use lib.Dec.{ltb, eqb}
use lib.ListN.{get_or}
use Rattle.std.specs.List.{list_any}
use Rattle.settings.specs.Settings.{longest, unfair, any_unfair}

-- a test of each is the test of all
pub any_is : (ts : List ℕ) → list_any unfair ts ≡ any_unfair ts
unfolding any_unfair
any_is [] = refl
any_is (t ∷ ts) = ap (λ (rest : Bool). unfair t || rest) (any_is ts)

-- none is longer than an operation may be
pub none_longer : (ts : List ℕ) (k : ℕ) → any_unfair ts ≡ false → ltb longest (get_or ts k 0) ≡ false
unfolding any_unfair
none_longer [] k e = refl
none_longer (t ∷ ts) zero e = by (eqb t 0) (ltb longest t) e
  where
    by : (b c : Bool) → (b || c || any_unfair ts) ≡ false → c ≡ false
    by true c e = absurd (true≢false e)
    by false true e = absurd (true≢false e)
    by false false e = refl
none_longer (t ∷ ts) (suc k) e = none_longer ts k (by (eqb t 0) (ltb longest t) e)
  where
    by : (b c : Bool) → (b || c || any_unfair ts) ≡ false → any_unfair ts ≡ false
    by true c e = absurd (true≢false e)
    by false true e = absurd (true≢false e)
    by false false e = e
