-- The laws of the layout: what is written as digits is read as the bytes that it was, and a checksum makes the sum 0. Assumes nothing.
use Prim.Native.Nat.{ℕ, zero, suc, ◌+◌, ◌*◌, ◌/◌, ◌%◌, ◌<◌}
use mathlib.Core.List.{List, [], ◌∷◌, ◌++◌}
use mathlib.Core.Path.{◌≡◌, refl}
use native.Mathlib.Decide.{dec_lt}
use native.Mathlib.Nat.{not-suc-le-zero, le_of_suc-le-suc}
use native.Mathlib.Omega.{arith}
use borrow.Author.Tests.{lt-ltb, le-ltb}
use lib.ListN.{length, get_or}
use Rattle.cells.proofs.Runs.{range_in, range_behind}
use Rattle.ihex_layout.specs.Layout.{digit, digits, sum, checksum, digit_of, byte_at}

-- the digits of bytes and more bytes
pub digits_append : (xs ys : List ℕ) → digits (xs ++ ys) ≡ digits xs ++ digits ys
unfolding digits
digits_append [] ys = refl
digits_append (x ∷ xs) ys = rw (digits_append xs ys)

-- two for each byte
pub length_digits : (xs : List ℕ) → length (digits xs) ≡ 2 * length xs
unfolding digits
length_digits [] = refl
length_digits (x ∷ xs) = omega (arith, length_digits xs)

-- the sum of bytes and more bytes
pub sum-append : (xs ys : List ℕ) → sum (xs ++ ys) ≡ sum xs + sum ys
unfolding sum
sum-append [] ys = omega arith
sum-append (x ∷ xs) ys = omega (arith, sum-append xs ys)

-- one byte more adds to the sum
pub sum_more : (bytes : List ℕ) (b : ℕ) → sum (bytes ++ b ∷ []) ≡ sum bytes + b
unfolding sum
sum_more bytes b = omega (arith, sum-append bytes (b ∷ []))

-- with its checksum behind them bytes add up to 0, modulo 256
pub checked : (bytes : List ℕ) → sum (bytes ++ checksum bytes ∷ []) % 256 ≡ 0
checked bytes = omega (arith, sum_more bytes (checksum bytes))

-- a digit that is written is read as what it was
digit_read : (n : ℕ) → n < 16 → digit_of (digit n) ≡ n
unfolding digit_of
digit_read n l = by (dec_lt n 10)
  where
    by : Dec (n < 10) → digit_of (digit n) ≡ n
    by (yes d) = rw (lt-ltb n 10 d, range_in 0x30 0x3A (0x30 + n) (omega arith) (omega arith)) (omega arith)
    by (no d) =
        rw
        (le-ltb n 10 (omega arith), range_behind 0x30 0x3A (0x37 + n) (omega arith), range_in 0x41 0x47 (0x37 + n) (omega arith) (omega arith))
        (omega arith)

-- the digits of bytes, behind one character, are read as these bytes
pub byte_read : (c : ℕ) (bytes : List ℕ) (k : ℕ) → k < length bytes → get_or bytes k 0 < 256 → byte_at (c ∷ digits bytes) k ≡ get_or bytes k 0
unfolding byte_at digits
byte_read c [] k l s = absurd (not-suc-le-zero l)
byte_read c (b ∷ bytes) zero l s = rw (digit_read (b / 16) (omega arith), digit_read (b % 16) (omega arith)) (omega arith)
byte_read c (b ∷ bytes) (suc k) l s =
    let p : 2 * suc k + 1 ≡ suc (suc (2 * k + 1)) = omega arith in
    let q : 2 * suc k + 2 ≡ suc (suc (2 * k + 2)) = omega arith in
    rw (p, q) (byte_read (digit (b % 16)) bytes k (le_of_suc-le-suc l) s)
