-- What the characters of a pair stand for, as the reader reckons it. Assumes nothing.
use Prim.Native.Nat.{ℕ, suc, ◌+◌, ◌-◌, ◌*◌, ◌/◌, ◌%◌, ◌<◌, ◌≤◌}
use mathlib.Core.Bool.{Bool, true, false, ◌&&◌, ◌||◌}
use mathlib.Core.Path.{◌≡◌, refl, sym, ap}
use native.Mathlib.Decide.{dec_lt}
use native.Mathlib.Omega.{arith}
use borrow.Author.Tests.{lt-ltb, le-ltb}
use lib.Dec.{leb, ltb}
use Rattle.std.proofs.Math.Dec.{leb-suc-suc}
use lib.ListN.{get_or}
use mathlib.Core.List.{List}
use Rattle.std.specs.Int.{is_in_range}
use Rattle.std.specs.Char.{is_ascii_hexdigit}
use Rattle.cells.specs.Range.{range}
use Rattle.cells.proofs.Runs.{range_of_lem}
use Rattle.ihex_layout.specs.Layout.{digit_of, byte_at}

-- a character is a digit, and then this is its number, or it is none
record Digit (c : ℕ) : Type 0 where
  pub tested : (range 48 58 c || range 65 71 c || range 97 103 c) ≡ ltb (digit_of c) 256
  pub small : digit_of c < 256 → digit_of c < 16
  pub worth : digit_of c < 256 → c % 16 + c / 64 * 9 ≡ digit_of c

digit : (c : ℕ) → Digit c
unfolding digit_of
digit c = by (range 48 58 c) (range 65 71 c) (range 97 103 c) refl refl refl
  where
    told : (b : Bool) (v : ℕ) → (range 48 58 c || range 65 71 c || range 97 103 c) ≡ b → digit_of c ≡ v → b ≡ ltb v 256 → (v < 256 → v < 16)
        → (v < 256 → c % 16 + c / 64 * 9 ≡ v) → Digit c
    told b v e d t s w = record { tested = rw (e, d) t; small = rw d s; worth = rw d w }

    by : (n u l : Bool) → range 48 58 c ≡ n → range 65 71 c ≡ u → range 97 103 c ≡ l → Digit c
    by true u l x y z =
        let w : (48 ≤ c) × (c < 58) = range_of_lem 48 58 c x in
        told true (c - 48) (rw x) (rw x) (sym (lt-ltb (c - 48) 256 (omega arith))) (λ p. omega arith) (λ p. omega arith)
    by false true l x y z =
        let w : (65 ≤ c) × (c < 71) = range_of_lem 65 71 c y in
        told true (c - 55) (rw (x, y)) (rw (x, y)) (sym (lt-ltb (c - 55) 256 (omega arith))) (λ p. omega arith) (λ p. omega arith)
    by false false true x y z =
        let w : (97 ≤ c) × (c < 103) = range_of_lem 97 103 c z in
        told true (c - 87) (rw (x, y, z)) (rw (x, y, z)) (sym (lt-ltb (c - 87) 256 (omega arith))) (λ p. omega arith) (λ p. omega arith)
    by false false false x y z = told false 256 (rw (x, y, z)) (rw (x, y, z)) refl (λ p. absurd (omega arith)) (λ p. absurd (omega arith))

-- the range up to, and with, a character
to_last : (a b c : ℕ) → is_in_range a b c ≡ range a (suc b) c
to_last a b c = ap (λ (t : Bool). leb a c && t) (sym (leb-suc-suc c b))

-- so the library tests for a digit
pub digit_test : (c : ℕ) → is_ascii_hexdigit c ≡ ltb (digit_of c) 256
digit_test c = rw (to_last 48 57 c, to_last 65 70 c, to_last 97 102 c) (digit c).tested

-- a digit's number is its low four bits, and nine more for a letter
pub digit_value : (c : ℕ) → digit_of c < 256 → c % 16 + c / 64 * 9 ≡ digit_of c
digit_value c l = (digit c).worth l

-- two digits make a byte, and nothing else does
pub pair_test : (text : List ℕ) (k : ℕ)
    → (ltb (digit_of (get_or text (2 * k + 1) 0)) 256 && ltb (digit_of (get_or text (2 * k + 2) 0)) 256)
    ≡ ltb (byte_at text k) 256
unfolding byte_at
pair_test text k = both (get_or text (2 * k + 1) 0) (get_or text (2 * k + 2) 0)
  where
    both : (h l : ℕ) → (ltb (digit_of h) 256 && ltb (digit_of l) 256) ≡ ltb (digit_of h * 16 + digit_of l) 256
    both h l = by (dec_lt (digit_of h) 256) (dec_lt (digit_of l) 256)
      where
        by : Dec (digit_of h < 256) → Dec (digit_of l < 256)
            → (ltb (digit_of h) 256 && ltb (digit_of l) 256) ≡ ltb (digit_of h * 16 + digit_of l) 256
        by (yes p) (yes q) =
            rw (lt-ltb (digit_of h) 256 p, lt-ltb (digit_of l) 256 q)
            (sym (lt-ltb (digit_of h * 16 + digit_of l) 256 (omega (arith, (digit h).small p, (digit l).small q))))
        by (yes p) (no q) =
            rw (lt-ltb (digit_of h) 256 p, le-ltb (digit_of l) 256 (omega arith))
            (sym (le-ltb (digit_of h * 16 + digit_of l) 256 (omega arith)))
        by (no p) q =
            rw (le-ltb (digit_of h) 256 (omega arith)) (sym (le-ltb (digit_of h * 16 + digit_of l) 256 (omega arith)))
