-- What is known of a line that is not refused. Assumes nothing.
use Prim.Native.Nat.{ℕ, suc, ◌+◌, ◌<◌, ◌≤◌}
use mathlib.Core.Bool.{Bool, true, false, true≢false, cond, not, ◌&&◌, ◌||◌}
use mathlib.Core.List.{List}
use mathlib.Core.Path.{◌≡◌, refl}
use native.Mathlib.Omega.{arith}
use borrow.Author.Tests.{ltb-false, eqb-true, eq-eqb, ne_eqb, not-false}
use lib.Dec.{eqb, ltb}
use Rattle.ihex_layout.specs.Layout.{length_of, address_of, kind_of}
use Rattle.ihex_read.specs.Reader.{is_whole, malformed, wrong_sum, other_kind, start_of, outside, fault_of}

-- What is known of a line that is not malformed.
pub neither : (s t : Bool) → (s || t) ≡ false → (s ≡ false) × (t ≡ false)
neither true t e = absurd (true≢false e)
neither false t e = (refl, e)

pub sound_whole : (line : List ℕ) → malformed line ≡ false → is_whole line ≡ true
sound_whole line e = not-false (is_whole line) (neither _ _ e).0

-- its upper part is two bytes
pub sound_upper : (line : List ℕ) → malformed line ≡ false → kind_of line ≡ 4 → length_of line ≡ 2
sound_upper line e k =
    let w = (neither (not (is_whole line)) _ e).1 in
    let u : (eqb (kind_of line) 4 && not (eqb (length_of line) 2)) ≡ false =
    (neither (eqb (kind_of line) 1 && not (eqb (length_of line) 0)) _ w).1 in
    eqb-true (length_of line) 2 (not-false (eqb (length_of line) 2) (rw (eq-eqb (kind_of line) 4 k) at u))

-- What is known of a line that is not refused.
passed : (b : Bool) (n m : ℕ) → cond b (suc n) m ≡ 0 → (b ≡ false) × (m ≡ 0)
passed true n m e = absurd (omega arith)
passed false n m e = (refl, e)

pub sound : (size upper : ℕ) (line : List ℕ) → fault_of size upper line ≡ 0 → malformed line ≡ false
unfolding fault_of
sound size upper line e = (passed _ _ _ e).0

-- so it is whole
pub good_whole : (size upper : ℕ) (line : List ℕ) → fault_of size upper line ≡ 0 → is_whole line ≡ true
good_whole size upper line e = sound_whole line (sound size upper line e)

pub data_inside : (size upper : ℕ) (line : List ℕ) → fault_of size upper line ≡ 0 → kind_of line ≡ 0
    → 0 < length_of line → start_of upper line + length_of line ≤ size
unfolding fault_of
data_inside size upper line e k l =
    let summed = (passed (wrong_sum line) _ _ (passed (malformed line) _ _ e).1).1 in
    let last = (passed (outside size upper line) _ _ (passed (other_kind line) _ _ summed).1).0 in
    let more : eqb (length_of line) 0 ≡ false = ne_eqb (length_of line) 0 (λ z. omega arith) in
    ltb-false size (start_of upper line + length_of line)
    (neither (ltb 65536 (address_of line + length_of line)) (ltb size (start_of upper line + length_of line))
    (rw (eq-eqb (kind_of line) 0 k, more) at last)).1
