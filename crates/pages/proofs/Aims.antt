-- Where data bytes aim: as many in a row as the page has places never twice at one place. Assumes nothing.
use Prim.Native.Nat.{ℕ, zero, suc, ◌+◌, ◌-◌, ◌%◌, ◌<◌, ◌≤◌}
use mathlib.Core.Bool.{false}
use mathlib.Core.List.{List}
use mathlib.Core.Path.{◌≡◌, refl, sym, ap, ◌∙◌}
use native.Mathlib.Decide.{dec_lt, ℕ_discrete}
use native.Mathlib.Nat.{not-suc-le-zero, mod-lt, mod-eq_of_lt, mod-add-mod, add-mod_right}
use native.Mathlib.Omega.{arith}
use borrow.Author.Tests.{eq-eqb, ne_eqb}
use lib.ListN.{get_or}
use Rattle.pages.specs.Page.{covered, last}

-- Of `size` data bytes in a row no two aim at one place.
pub aimed_once : (size start i j : ℕ) → i < j → j < i + size → (start + i) % size ≡ (start + j) % size → ⊥
aimed_once size start i j p q e = by (dec_lt (r + (j - i)) size)
  where
    r : ℕ
    r = (start + i) % size

    low : r < size
    low = mod-lt (start + i) (omega arith)

    again : r ≡ (r + (j - i)) % size
    again =
        e ∙
        (ap (λ (n : ℕ). n % size) (omega arith) ∙
        sym (mod-add-mod (start + i) size (j - i)))

    by : Dec (r + (j - i) < size) → ⊥
    by (yes l) = omega (arith, low, again ∙ mod-eq_of_lt l)
    by (no l) =
        omega
        (arith, low, again ∙ (ap (λ (n : ℕ). n % size) (omega (arith, low)) ∙ (add-mod_right (r + (j - i) - size) size ∙ mod-eq_of_lt (omega (arith, low)))))

-- so the one of the last `size` bytes that aims at p is the last that does
pub last_aimed : (size start : ℕ) (sent : List ℕ) (n i p x : ℕ) → i < n → n ≤ i + size → (start + i) % size ≡ p → last size start sent n p x ≡ get_or sent i 0
unfolding last
last_aimed size start sent zero i p x l m e = absurd (not-suc-le-zero l)
last_aimed size start sent (suc n) i p x l m e = by (ℕ_discrete i n) (λ k. last_aimed size start sent n i p x k (omega arith) e)
  where
    by : Dec (i ≡ n) → (i < n → last size start sent n p x ≡ get_or sent i 0) → last size start sent (suc n) p x ≡ get_or sent i 0
    by (yes q) ih = rw (q, eq-eqb ((start + n) % size) p (ap (λ (k : ℕ). (start + k) % size) (sym q) ∙ e))
    by (no q) ih =
        let k : i < n = omega arith in
        rw (ne_eqb ((start + n) % size) p (λ d. aimed_once size start i n k m (e ∙ sym d))) (ih k)

-- and where the first byte that would aim at p is not sent, none does
pub none_aims : (size start n j p : ℕ) → n ≤ j → j < size → (start + j) % size ≡ p → covered size start n p ≡ false
unfolding covered
none_aims size start zero j p l m e = refl
none_aims size start (suc n) j p l m e =
    rw (ne_eqb ((start + n) % size) p (λ d. aimed_once size start n j l (omega arith) (d ∙ sym e))) (none_aims size start n j p (omega arith) m e)
