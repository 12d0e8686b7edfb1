-- A loop that writes the pairs of digits for bytes and adds them up. Assumes nothing.
use Prim.Native.Nat.{ℕ, ◌+◌, ◌*◌, ◌<◌, ◌≤◌}
use mathlib.Core.List.{List, [], ◌∷◌, ◌++◌}
use mathlib.Core.Path.{◌≡◌, refl, ◌∙◌}
use native.Mathlib.Numerals.{add-one}
use native.Mathlib.Omega.{arith}
use lib.ListN.{length, get_or, take}
use lib.Seq.{sets, take-suc, take-length, length-take-le}
use Rattle.ihex_layout.specs.Layout.{digits, sum}
use Rattle.ihex_layout.proofs.Digits.{digits_append, length_digits, sum-append}
use Rattle.ihex_write.proofs.Stores.{Received, one_more}

-- A loop that writes bytes from the place `at` of xs on, and adds them up, has come to byte i: xs has become ys.
pub record Spelled (bytes xs : List ℕ) (at i : ℕ) (ys : List ℕ) (total : ℕ) : Type 0 where
  pub so_far : Received xs at (digits (take i bytes)) ys
  pub adds_up : total ≡ sum (take i bytes)
  pub small : total ≤ 255 * i

-- it begins with nothing written
pub spells : (bytes xs : List ℕ) (at : ℕ) → Spelled bytes xs at 0 xs 0
unfolding digits sum
spells bytes xs at = record { so_far = record { whole = refl }; adds_up = refl; small = omega arith }

-- at the end all of the bytes are written
pub spelled : (bytes : List ℕ) {xs : List ℕ} {at i : ℕ} {ys : List ℕ} {total : ℕ} → Spelled bytes xs at i ys total
    → i ≡ length bytes
    → (total ≡ sum bytes) × (ys ≡ sets xs at (digits bytes))
spelled bytes {i = i} s e =
    let all : take i bytes ≡ bytes = rw (e, take-length bytes) refl in
    (rw all at s.adds_up, rw all at s.so_far.whole)

-- one byte more
pub spells_on : {bytes xs : List ℕ} {at i : ℕ} {ys : List ℕ} {total : ℕ} → Spelled bytes xs at i ys total
    → i < length bytes → (byte : ℕ) → byte < 256 → {zs : List ℕ} → byte ≡ get_or bytes i 0
    → zs ≡ sets ys (at + 2 * i) (digits (byte ∷ []))
    → Spelled bytes xs at (i + 1) zs (total + byte)
unfolding sum
spells_on {bytes} {at = at} {i = i} s l byte f b z =
    let more : take (i + 1) bytes ≡ take i bytes ++ byte ∷ [] = rw (add-one, b) (take-suc bytes i 0 l) in
    let long : length (digits (take i bytes)) ≡ 2 * i = length_digits (take i bytes) ∙ rw (length-take-le i bytes (omega arith)) in
    record {
      so_far = rw (more, digits_append) (one_more s.so_far (at + 2 * i) (digits (byte ∷ [])) z (omega arith));
      adds_up = rw more (omega (arith, sum-append (take i bytes) (byte ∷ [])));
      small = omega (arith, s.small);
    }
