-- Going through a list, one element after the other: what a function says of the elements from i on. Assumes nothing.
use Prim.Native.Nat.{ℕ, ◌+◌, ◌<◌, ◌≤◌}
use mathlib.Core.List.{List, [], ◌∷◌}
use mathlib.Core.Path.{◌≡◌}
use native.Mathlib.Numerals.{add-one}
use lib.ListN.{length, get_or, drop, drop_of_length-le}
use lib.Seq.{drop-cons}

module _ {A B : Type 0} (f : List A → B) (xs : List A) (i : ℕ) (w : B) (left : f (drop i xs) ≡ w) where
  -- the element at i is the first of them
  pub from_here : (d : A) → i < length xs → f (get_or xs i d ∷ drop (i + 1) xs) ≡ w
  from_here d l = rw (add-one i) (rw (drop-cons xs i d l) at left)

  -- behind the last there are none
  pub at_end : length xs ≤ i → f [] ≡ w
  at_end l = rw (drop_of_length-le xs l) at left
