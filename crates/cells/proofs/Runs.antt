-- The laws of a range of places: a loop that stores at one place after the other, and runs side by side. Assumes nothing.
use Prim.Native.Nat.{ℕ, ◌+◌, ◌-◌, ◌<◌, ◌≤◌}
use mathlib.Core.Bool.{true, false, and-false, and-eq-true_iff}
use mathlib.Core.List.{List, ◌++◌}
use mathlib.Core.Logic.{◌≢◌}
use mathlib.Core.Path.{◌≡◌, refl, sym, ap, ◌∙◌}
use native.Mathlib.Decide.{dec_lt}
use native.Mathlib.Omega.{arith}
use borrow.Author.Tests.{lt-ltb, le-ltb, le-leb, lt-leb, leb-true, ltb-true}
use lib.Dec.{leb, ltb}
use borrow.Rule.Slice.PartMut.{post_of, put_mid, mid_len, same_len_mid, Post-is}
use lib.ListN.{length, get_or, set, take, drop, get_or-append}
use lib.Seq.{get_or-append_right, get_or-drop, get_or-take, length-take-le}
use Rattle.cells.specs.Each.{Cell, each, over, stored}
use Rattle.cells.specs.Range.{range}
use Rattle.cells.proofs.Places.{each_alike, each_then, each_set, is_each, length-each, get_or-each, over_in, over_out, over_alike}
use Rattle.cells.proofs.Places.{untouched}

-- a place of the range, and the three kinds of place: in it, before it, behind it
pub range_in : (a b k : ℕ) → a ≤ k → k < b → range a b k ≡ true
range_in a b k p q = rw (le-leb a k p, lt-ltb k b q)

pub range_before : (a b k : ℕ) → k < a → range a b k ≡ false
range_before a b k p = rw (lt-leb a k p)

pub range_behind : (a b k : ℕ) → b ≤ k → range a b k ≡ false
range_behind a b k p = rw (le-ltb k b p) (and-false (leb a k))

-- what a place in the range knows
pub range_of_lem : (a b k : ℕ) → range a b k ≡ true → (a ≤ k) × (k < b)
range_of_lem a b k e = let w : (leb a k ≡ true) × (ltb k b ≡ true) = (and-eq-true_iff (leb a k) (ltb k b)).0 e in (leb-true a k w.0, ltb-true k b w.1)

-- from a place up to itself there is none
pub range_none : (a k : ℕ) → range a a k ≡ false
range_none a k = by (dec_lt k a)
  where
    by : Dec (k < a) → range a a k ≡ false
    by (yes l) = range_before a a k l
    by (no l) = range_behind a a k (omega arith)

-- one place more makes no difference elsewhere
pub range_more : (a i k : ℕ) → k ≢ i → range a (i + 1) k ≡ range a i k
range_more a i k n = by (dec_lt k i)
  where
    by : Dec (k < i) → range a (i + 1) k ≡ range a i k
    by (yes l) = rw (lt-ltb k i l, lt-ltb k (i + 1) (omega arith))
    by (no l) = let m : i < k = omega arith in range_behind a (i + 1) k (omega arith) ∙ sym (range_behind a i k (omega arith))

-- two runs side by side are one run
pub side_by_side : (f : Cell) (a b e : ℕ) (xs : List ℕ) → a ≤ b → b ≤ e → each (over (range b e) f) (each (over (range a b) f) xs) ≡ each (over (range a e) f) xs
side_by_side f a b e xs p q =
    each_then (over (range b e) f) (over (range a b) f) (over (range a e) f) xs (λ k l. by k (get_or xs k 0) (dec_lt k b))
  where
    by : (k x : ℕ) → Dec (k < b) → over (range b e) f k (over (range a b) f k x) ≡ over (range a e) f k x
    by k x (yes l) =
        over_out (range b e) f k (over (range a b) f k x) (range_before b e k l) ∙
        over_alike (range a b) (range a e) f f k x (rw (lt-ltb k b l, lt-ltb k e (omega arith))) (λ c. refl)
    by k x (no l) =
        ap (over (range b e) f k) (over_out (range a b) f k x (range_behind a b k (omega arith))) ∙
        over_alike (range b e) (range a e) f f k x (rw (le-leb b k (omega arith), le-leb a k (omega arith))) (λ c. refl)

-- a part of the memory that is given new bytes, each by its place, is a range that they are stored in
pub put_stored : (a b : ℕ) (value : ℕ → ℕ) (xs ys : List ℕ) → a ≤ b → b ≤ length xs → length ys ≡ b - a
    → ((k : ℕ) → a ≤ k → k < b → get_or ys (k - a) 0 ≡ value k) → put_mid a (b - a) xs ys ≡ each (stored (range a b) value) xs
put_stored a b value xs ys p q e h =
    is_each (stored (range a b) value) xs (put_mid a (b - a) xs ys) (same_len_mid a (b - a) xs ys (e ∙ sym (mid_len a b xs q)))
    (λ k l. by k (dec_lt k a) (dec_lt k b))
  where
    front : length (take a xs) ≡ a
    front = length-take-le a xs (omega arith)

    rest : List ℕ
    rest = ys ++ post_of a (b - a) xs

    behind : (k : ℕ) → a ≤ k → get_or (put_mid a (b - a) xs ys) k 0 ≡ get_or rest (k - a) 0
    behind k l = rw front at (get_or-append_right (take a xs) rest k 0 (omega (arith, front)))

    by : (k : ℕ) → Dec (k < a) → Dec (k < b) → get_or (put_mid a (b - a) xs ys) k 0 ≡ stored (range a b) value k (get_or xs k 0)
    by k (yes l) m =
        get_or-append (take a xs) rest 0 k (omega (arith, front)) ∙ (get_or-take a xs k 0 l ∙ sym (over_out _ _ k _ (range_before a b k l)))
    by k (no l) (yes m) =
        behind k (omega arith) ∙ (get_or-append ys (post_of a (b - a) xs) 0 (k - a) (omega (arith, e)) ∙
        (h k (omega arith) m ∙ sym (over_in _ _ k _ (range_in a b k (omega arith) m))))
    by k (no l) (no m) =
        behind k (omega arith) ∙ (get_or-append_right ys (post_of a (b - a) xs) (k - a) 0 (omega (arith, e)) ∙
        (ap (λ (zs : List ℕ). get_or zs (k - a - length ys) 0) (Post-is a b xs p) ∙
        (get_or-drop b xs (k - a - length ys) 0 ∙
        (ap (λ (n : ℕ). get_or xs n 0) (omega (arith, e)) ∙ sym (over_out _ _ k _ (range_behind a b k (omega arith)))))))

-- a part of the memory that is changed by itself, its places counted from its own first one: put back it is changed in the memory
pub put_each : (a b : ℕ) (f g : Cell) (xs : List ℕ) → a ≤ b → b ≤ length xs → ((k x : ℕ) → a ≤ k → k < b → f (k - a) x ≡ g k x)
    → ((k x : ℕ) → k < a → g k x ≡ x) → ((k x : ℕ) → b ≤ k → g k x ≡ x)
    → put_mid a (b - a) xs (each f (take (b - a) (drop a xs))) ≡ each g xs
put_each a b f g xs p q inside before behind =
    put_stored a b value xs (each f part) p q (length-each f part ∙ long) changed ∙
    each_alike (stored (range a b) value) g xs (λ k l. by k (get_or xs k 0) (dec_lt k a) (dec_lt k b) refl)
  where
    value : ℕ → ℕ
    value k = g k (get_or xs k 0)

    part : List ℕ
    part = take (b - a) (drop a xs)

    long : length part ≡ b - a
    long = mid_len a b xs q

    changed : (k : ℕ) → a ≤ k → k < b → get_or (each f part) (k - a) 0 ≡ value k
    changed k l m =
        get_or-each f part (k - a) 0 (omega (arith, long)) ∙
        (ap (f (k - a)) (get_or-take (b - a) (drop a xs) (k - a) 0 (omega arith) ∙ (get_or-drop a xs (k - a) 0 ∙ ap (λ (n : ℕ). get_or xs n 0) (omega arith))) ∙
        inside k (get_or xs k 0) l m)

    by : (k x : ℕ) → Dec (k < a) → Dec (k < b) → x ≡ get_or xs k 0 → stored (range a b) value k x ≡ g k x
    by k x (yes l) m e = over_out _ _ k x (range_before a b k l) ∙ sym (before k x l)
    by k x (no l) (yes m) e = over_in _ _ k x (range_in a b k (omega arith) m) ∙ ap (g k) (sym e)
    by k x (no l) (no m) e = over_out _ _ k x (range_behind a b k (omega arith)) ∙ sym (behind k x (omega arith))

-- A loop that gives the places from a up to b their new bytes, one after the other, has reached i: the memory xs has become ys.
pub record Reached (f : Cell) (a b : ℕ) (xs : List ℕ) (i : ℕ) (ys : List ℕ) : Type 0 where
  pub low : a ≤ i
  pub high : i ≤ b
  pub so_far : ys ≡ each (over (range a i) f) xs

-- it begins with the memory as it was
pub begins : (f : Cell) (a b : ℕ) (xs : List ℕ) → a ≤ b → Reached f a b xs a xs
begins f a b xs p =
    record {
      low = omega arith;
      high = p;
      so_far =
          is_each (over (range a a) f) xs xs refl
          (λ k l. sym (over_out (range a a) f k (get_or xs k 0) (range_none a k)));
    }

module _ {f : Cell} {a b : ℕ} {xs : List ℕ} {i : ℕ} {ys : List ℕ} (r : Reached f a b xs i ys) where
  -- the length stays
  pub same_long : length ys ≡ length xs
  same_long = ap length r.so_far ∙ length-each (over (range a i) f) xs

  -- what it reads at its next place is the old byte
  pub next_read : (d : ℕ) → get_or ys i d ≡ get_or xs i d
  next_read d = ap (λ (l : List ℕ). get_or l i d) r.so_far ∙ untouched (range a i) f xs i d (range_behind a i i (omega arith))

  -- its store there takes it one place on
  pub goes_on : (v : ℕ) → i < b → i < length xs → v ≡ f i (get_or xs i 0) → Reached f a b xs (i + 1) (set ys i v)
  goes_on v p l e =
      record {
        low = omega arith;
        high = omega arith;
        so_far =
            ap (λ (l : List ℕ). set l i v) r.so_far ∙
            each_set (over (range a i) f) (over (range a (i + 1)) f) xs i v l
            (e ∙ sym (over_in (range a (i + 1)) f i (get_or xs i 0) (range_in a (i + 1) i r.low (omega arith))))
            (λ k n. over_alike (range a i) (range a (i + 1)) f f k (get_or xs k 0) (sym (range_more a i k n)) (λ c. refl));
      }

  -- at the end every place of the range has its new byte
  pub ends : b ≤ i → ys ≡ each (over (range a b) f) xs
  ends p = let e : i ≡ b = omega arith in rw e at r.so_far

  -- a whole run that does the same takes it on to the run's end
  pub runs_on : (g : Cell) (e : ℕ) (zs : List ℕ) → i ≤ e → e ≤ b → zs ≡ each (over (range i e) g) ys → ((k x : ℕ) → i ≤ k → k < e → g k x ≡ f k x)
      → Reached f a b xs e zs
  runs_on g e zs p q z h =
      record {
        low = omega arith;
        high = q;
        so_far =
            z ∙
            (each_alike (over (range i e) g) (over (range i e) f) ys
            (λ k l. over_alike (range i e) (range i e) g f k (get_or ys k 0) refl (λ c. h k (get_or ys k 0) (range_of_lem i e k c).0 (range_of_lem i e k c).1)) ∙
            (ap (each (over (range i e) f)) r.so_far ∙ side_by_side f a i e xs r.low p));
      }
