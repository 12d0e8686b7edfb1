-- An entry above the limit, among those of the first accounts. Assumes nothing.
use Prim.Native.Nat.{ℕ, zero, suc, ◌<◌, ◌≤◌}
use mathlib.Core.Bool.{Bool, true, false, true≢false, ◌||◌, or-true}
use mathlib.Core.List.{List, [], ◌∷◌}
use mathlib.Core.Path.{◌≡◌, refl, sym, ap, subst, ◌∙◌}
use native.Mathlib.Decide.{ℕ_discrete, dec_le}
use native.Mathlib.Nat.{not-suc-le-zero, le_refl, le_trans, le_of_eq, add-le-add, add-le-add_iff_right}
use native.Mathlib.Omega.{arith}
use borrow.Author.Tests.{lt-ltb, le-ltb}
use lib.Bits.{bit_or, or_add_and, and_le_r, or_comm}
use lib.Dec.{ltb}
use lib.ListN.{get_or, length}
use Rattle.std.specs.List.{list_any}
use Rattle.ledger.specs.Ledger.{limit, above_before, any_above}

-- one is found
pub found : (n k : ℕ) (table : List ℕ) → k < n → limit < get_or table k 0 → above_before n table ≡ true
unfolding above_before
found zero k table l a = absurd (not-suc-le-zero l)
found (suc n) k table l a = by (ℕ_discrete k n) (λ m. found n k table m a)
  where
    by : Dec (k ≡ n) → (k < n → above_before n table ≡ true) → (ltb limit (get_or table n 0) || above_before n table) ≡ true
    by (yes e) earlier = rw (lt-ltb limit (get_or table n 0) (subst (λ (j : ℕ). limit < get_or table j 0) e a))
    by (no e) earlier = rw (earlier (omega arith), or-true (ltb limit (get_or table n 0)))

-- none is there
pub none_above : (n k : ℕ) (table : List ℕ) → k < n → above_before n table ≡ false → get_or table k 0 ≤ limit
none_above n k table l e = by (dec_le (get_or table k 0) limit)
  where
    by : Dec (get_or table k 0 ≤ limit) → get_or table k 0 ≤ limit
    by (yes m) = m
    by (no m) = absurd (true≢false (sym (found n k table l (omega arith)) ∙ e))

-- the first word and the others
first_and_others : (n x : ℕ) (xs : List ℕ) → above_before (suc n) (x ∷ xs) ≡ ltb limit x || above_before n xs
unfolding above_before
first_and_others zero x xs = refl
first_and_others (suc n) x xs =
    rw (first_and_others n x xs) (swapped (ltb limit (get_or xs n 0)) (ltb limit x) (above_before n xs))
  where
    swapped : (a b c : Bool) → a || (b || c) ≡ b || (a || c)
    swapped true true c = refl
    swapped true false c = refl
    swapped false b c = refl

-- a test of each word is the test of as many
tested : (table : List ℕ) → list_any (ltb limit) table ≡ above_before (length table) table
unfolding above_before
tested [] = refl
tested (x ∷ xs) = ap (λ (rest : Bool). ltb limit x || rest) (tested xs) ∙ sym (first_and_others (length xs) x xs)

pub any_is : (table : List ℕ) → length table ≡ 256 → list_any (ltb limit) table ≡ any_above table
any_is table whole = subst (λ (n : ℕ). list_any (ltb limit) table ≡ above_before n table) whole (tested table)

-- a number is not above what has all its bits
pub or_left : (a b : ℕ) → a ≤ bit_or a b
or_left a b = (add-le-add_iff_right b).0 (le_trans (le_of_eq (sym (or_add_and a b))) (add-le-add (le_refl (bit_or a b)) (and_le_r a b)))

pub or_right : (a b : ℕ) → b ≤ bit_or a b
or_right a b = subst (λ (x : ℕ). b ≤ x) (or_comm b a) (or_left b a)

-- none of the first i words is above the limit, unless all their bits are
abbrev pub Low : ℕ → ℕ → List ℕ → Type 0
Low i all table = all ≤ limit → above_before i table ≡ false

-- one word more
pub low_next : (i all : ℕ) (table : List ℕ) → Low i all table → Low (suc i) (bit_or all (get_or table i 0)) table
unfolding above_before
low_next i all table low l =
    let word = get_or table i 0 in
    rw (le-ltb limit word (le_trans (or_right all word) l)) (low (le_trans (or_left all word) l))
