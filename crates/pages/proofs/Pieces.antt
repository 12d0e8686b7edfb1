-- Parts of a list, and what ANDing one into a memory does. Assumes nothing.
use Prim.Native.Nat.{ℕ, ◌+◌, ◌-◌, ◌<◌, ◌≤◌}
use mathlib.Core.List.{List}
use mathlib.Core.Path.{◌≡◌, sym, ap, ◌∙◌}
use native.Mathlib.Decide.{dec_lt}
use native.Mathlib.Nat.{add-zero, add_assoc}
use native.Mathlib.Omega.{arith}
use lib.Bits.{bit_and}
use borrow.Rule.Slice.PartMut.{put_mid}
use lib.ListN.{length, get_or, set, take, drop, length-drop}
use lib.Seq.{get_or-take, get_or-drop, length-take-le}
use Rattle.cells.specs.Each.{each}
use Rattle.pages.specs.Page.{anded_in}
use Rattle.cells.proofs.Places.{each_alike, each_same, over_in, over_out}
use Rattle.cells.proofs.Runs.{Reached, begins, goes_on, ends, range_in, range_before, range_behind, put_each}

-- the piece of a list from one place up to another
abbrev pub piece : ℕ → ℕ → List ℕ → List ℕ
piece from to xs = take (to - from) (drop from xs)

pub piece_long : (from to : ℕ) (xs : List ℕ) → to ≤ length xs → length (piece from to xs) ≡ to - from
piece_long from to xs l = length-take-le (to - from) (drop from xs) (omega (arith, length-drop from xs))

pub piece_at : (from to : ℕ) (xs : List ℕ) (j : ℕ) → j < to - from → get_or (piece from to xs) j 0 ≡ get_or xs (from + j) 0
piece_at from to xs j l = get_or-take (to - from) (drop from xs) j 0 l ∙ get_or-drop from xs j 0

-- What is ANDed in from `at` on, at a place of it, before it and behind it.
module _ (at : ℕ) (buffer : List ℕ) (k x : ℕ) where
  pub anded_there : (j : ℕ) → at + j ≡ k → j < length buffer → anded_in at buffer k x ≡ bit_and x (get_or buffer j 0)
  anded_there j e l =
      let q : k - at ≡ j = omega arith in
      over_in _ _ k x (range_in at (at + length buffer) k (omega arith) (omega arith)) ∙ ap (λ (i : ℕ). bit_and x (get_or buffer i 0)) q

  pub not_before : k < at → anded_in at buffer k x ≡ x
  not_before l = over_out _ _ k x (range_before at (at + length buffer) k l)

  pub not_behind : at + length buffer ≤ k → anded_in at buffer k x ≡ x
  not_behind l = over_out _ _ k x (range_behind at (at + length buffer) k l)

-- Four bytes ANDed in without a loop.
module _ (at : ℕ) (buffer xs : List ℕ) (four : length buffer ≡ 4) (fits : at + 4 ≤ length xs) where
  abbrev new : ℕ → ℕ
  new j = bit_and (get_or xs (at + j) 0) (get_or buffer j 0)

  abbrev Come : ℕ → List ℕ → Type 0
  Come j ys = Reached (λ k x. bit_and x (get_or buffer (k - at) 0)) at (at + 4) xs (at + j) ys

  comes : (j : ℕ) (ys : List ℕ) → j < 4 → Come j ys → Come (j + 1) (set ys (at + j) (new j))
  comes j ys l r =
      let q : at + j - at ≡ j = omega arith in
      rw (sym (add_assoc at j 1)) (goes_on r (new j) (omega arith) (omega arith) (ap (λ (i : ℕ). bit_and (get_or xs (at + j) 0) (get_or buffer i 0)) (sym q)))

  pub in_four : set (set (set (set xs (at + 0) (new 0)) (at + 1) (new 1)) (at + 2) (new 2)) (at + 3) (new 3) ≡ each (anded_in at buffer) xs
  in_four =
      rw four (ends (comes 3 _ (omega arith) (comes 2 _ (omega arith) (comes 1 _ (omega arith) (comes 0 xs (omega arith) none)))) (omega arith))
    where
      none : Come 0 xs
      none = rw add-zero (begins _ at (at + 4) xs (omega arith))

-- nothing to AND changes nothing
pub none_left : (at : ℕ) (buffer xs : List ℕ) → length buffer ≡ 0 → each (anded_in at buffer) xs ≡ xs
none_left at buffer xs e =
    each_alike (anded_in at buffer) (λ k x. x) xs (λ k l. by k (get_or xs k 0) (dec_lt k at)) ∙ sym (each_same xs)
  where
    by : (k x : ℕ) → Dec (k < at) → anded_in at buffer k x ≡ x
    by k x (yes m) = not_before at buffer k x m
    by k x (no m) = not_behind at buffer k x (omega arith)

-- data ANDed into the part behind a place is ANDed in from that place on
pub anded_behind : (at : ℕ) (buffer xs : List ℕ) → at + length buffer ≤ length xs
    → put_mid at (length xs - at) xs (each (anded_in 0 buffer) (take (length xs - at) (drop at xs))) ≡ each (anded_in at buffer) xs
anded_behind at buffer xs fits =
    put_each at (length xs) (anded_in 0 buffer) (anded_in at buffer) xs (omega arith) (omega arith)
    (λ k x l m. by k x l (dec_lt (k - at) (length buffer)))
    (λ k x l. not_before at buffer k x l) (λ k x l. not_behind at buffer k x (omega arith))
  where
    by : (k x : ℕ) → at ≤ k → Dec (k - at < length buffer) → anded_in 0 buffer (k - at) x ≡ anded_in at buffer k x
    by k x l (yes m) =
        anded_there 0 buffer (k - at) x (k - at) (omega arith) m ∙ sym (anded_there at buffer k x (k - at) (omega arith) m)
    by k x l (no m) = not_behind 0 buffer (k - at) x (omega arith) ∙ sym (not_behind at buffer k x (omega arith))
