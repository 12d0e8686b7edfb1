-- The laws of `each` and `over`: what a memory holds after a function of the place and the old byte. Assumes nothing.
use Prim.Native.Nat.{ℕ, zero, suc, ◌+◌, ◌<◌, ◌≤◌}
use mathlib.Core.Bool.{Bool, true, false}
use mathlib.Core.List.{List, [], ◌∷◌}
use mathlib.Core.Logic.{◌≢◌}
use mathlib.Core.Path.{◌≡◌, refl, sym, ap, ◌∙◌}
use native.Mathlib.Decide.{dec_lt, ℕ_discrete}
use native.Mathlib.Nat.{add-zero, zero-add, add-suc, suc-add, not-suc-le-zero, le_of_suc-le-suc}
use native.Mathlib.Omega.{arith}
use lib.ListN.{length, get_or, set, length-set, get_or-eq_default}
use lib.Seq.{ext_get_or, get_or-set_same, get_or-set_other}
use Rattle.cells.specs.Each.{Cell, each, each_from, over}

length_from : (i : ℕ) (f : Cell) (xs : List ℕ) → length (each_from i f xs) ≡ length xs
unfolding each_from
length_from i f [] = refl
length_from i f (x ∷ xs) = ap suc (length_from (suc i) f xs)

get_or-from : (i : ℕ) (f : Cell) (xs : List ℕ) (k d : ℕ) → k < length xs → get_or (each_from i f xs) k d ≡ f (i + k) (get_or xs k d)
unfolding each_from
get_or-from i f [] k d h = absurd (not-suc-le-zero h)
get_or-from i f (x ∷ xs) zero d h = rw add-zero
get_or-from i f (x ∷ xs) (suc k) d h = rw (add-suc, ← suc-add) (get_or-from (suc i) f xs k d (le_of_suc-le-suc h))

-- lengths stay
pub length-each : (f : Cell) (xs : List ℕ) → length (each f xs) ≡ length xs
unfolding each
length-each f xs = length_from 0 f xs

-- each byte afterwards is the function of its place and its old value
pub get_or-each : (f : Cell) (xs : List ℕ) (k d : ℕ) → k < length xs → get_or (each f xs) k d ≡ f k (get_or xs k d)
unfolding each
get_or-each f xs k d h = get_or-from 0 f xs k d h ∙ rw zero-add

-- and a list with these bytes is the memory afterwards
pub is_each : (f : Cell) (xs ys : List ℕ) → length ys ≡ length xs → ((k : ℕ) → k < length xs → get_or ys k 0 ≡ f k (get_or xs k 0)) → ys ≡ each f xs
is_each f xs ys e h =
    ext_get_or 0 ys (each f xs) (e ∙ sym (length-each f xs))
    (λ k l. let m : k < length xs = omega arith in h k m ∙ sym (get_or-each f xs k 0 m))

-- to give each byte back is to do nothing
pub each_same : (xs : List ℕ) → xs ≡ each (λ k x. x) xs
each_same xs = is_each (λ k x. x) xs xs refl (λ k l. refl)

-- two functions that agree at every place and its byte do the same
pub each_alike : (f g : Cell) (xs : List ℕ) → ((k : ℕ) → k < length xs → f k (get_or xs k 0) ≡ g k (get_or xs k 0)) → each f xs ≡ each g xs
each_alike f g xs h = is_each g xs (each f xs) (length-each f xs) (λ k l. get_or-each f xs k 0 l ∙ h k l)

-- one after the other is one function, if it does at every place what the two do
pub each_then : (f g h : Cell) (xs : List ℕ) → ((k : ℕ) → k < length xs → f k (g k (get_or xs k 0)) ≡ h k (get_or xs k 0)) → each f (each g xs) ≡ each h xs
each_then f g h xs e =
    is_each h xs (each f (each g xs)) (length-each f (each g xs) ∙ length-each g xs)
    (λ k l.
    let m : k < length (each g xs) = omega (arith, length-each g xs) in
    get_or-each f (each g xs) k 0 m ∙ (ap (f k) (get_or-each g xs k 0 l) ∙ e k l))

-- a store changes what the function does at one place
pub each_set : (f g : Cell) (xs : List ℕ) (i v : ℕ) → i < length xs → v ≡ g i (get_or xs i 0)
    → ((k : ℕ) → k ≢ i → f k (get_or xs k 0) ≡ g k (get_or xs k 0)) → set (each f xs) i v ≡ each g xs
each_set f g xs i v l e h =
    is_each g xs (set (each f xs) i v) (length-set (each f xs) i v ∙ length-each f xs) (λ k m. here k m (ℕ_discrete k i))
  where
    here : (k : ℕ) → k < length xs → Dec (k ≡ i) → get_or (set (each f xs) i v) k 0 ≡ g k (get_or xs k 0)
    here k m (yes q) = rw q (get_or-set_same (each f xs) i v 0 (omega (arith, length-each f xs)) ∙ e)
    here k m (no q) = get_or-set_other (each f xs) i k v 0 q ∙ (get_or-each f xs k 0 m ∙ h k q)

-- a covered byte takes its new value
pub over_in : (covers : ℕ → Bool) (f : Cell) (k x : ℕ) → covers k ≡ true → over covers f k x ≡ f k x
unfolding over
over_in covers f k x e = rw e

-- a byte that is not covered stays
pub over_out : (covers : ℕ → Bool) (f : Cell) (k x : ℕ) → covers k ≡ false → over covers f k x ≡ x
unfolding over
over_out covers f k x e = rw e

-- functions that agree where they cover, and cover the same, do the same
pub over_alike : (covers also : ℕ → Bool) (f g : Cell) (k x : ℕ) → covers k ≡ also k → (covers k ≡ true → f k x ≡ g k x) → over covers f k x ≡ over also g k x
over_alike covers also f g k x e h = by (covers k) refl
  where
    by : (b : Bool) → covers k ≡ b → over covers f k x ≡ over also g k x
    by true c = over_in covers f k x c ∙ (h c ∙ sym (over_in also g k x (sym e ∙ c)))
    by false c = over_out covers f k x c ∙ sym (over_out also g k x (sym e ∙ c))

-- a byte that the function leaves alone stays, at any place
pub stays : (f : Cell) (xs : List ℕ) (k d : ℕ) → ((x : ℕ) → f k x ≡ x) → get_or (each f xs) k d ≡ get_or xs k d
stays f xs k d same = by (dec_lt k (length xs))
  where
    by : Dec (k < length xs) → get_or (each f xs) k d ≡ get_or xs k d
    by (yes l) = get_or-each f xs k d l ∙ same (get_or xs k d)
    by (no l) =
        let m : length xs ≤ k = omega arith in
        get_or-eq_default (each f xs) d (omega (arith, length-each f xs)) ∙ sym (get_or-eq_default xs d m)

-- bytes outside are untouched
pub untouched : (covers : ℕ → Bool) (f : Cell) (xs : List ℕ) (k d : ℕ) → covers k ≡ false → get_or (each (over covers f) xs) k d ≡ get_or xs k d
untouched covers f xs k d e = stays (over covers f) xs k d (λ x. over_out covers f k x e)
