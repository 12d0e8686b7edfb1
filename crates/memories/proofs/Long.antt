-- What the size of a memory gives to those who work on its bytes. Assumes nothing.
use Prim.Native.Nat.{ℕ, ◌%◌, ◌<◌, ◌≤◌}
use mathlib.Core.Bool.{Bool, true, false, ◌||◌}
use mathlib.Core.Path.{◌≡◌, refl}
use native.Mathlib.Omega.{arith}
use borrow.Author.Tests.{eqb-true}
use lib.Dec.{eqb}
use Rattle.memories.specs.Sizes.{is_array, is_register}

-- an array has bytes, whole blocks of 64 KiB, and no more than 32 bits can address
pub array_long : (n : ℕ) → is_array n ≡ true → (0 < n) × (n % 65536 ≡ 0) × (n ≤ 4294967296)
array_long n e = by (eqb n 131072) (eqb-true n 131072) e
  where
    by : (b : Bool) → (b ≡ true → n ≡ 131072) → (b || eqb n 65536) ≡ true → (0 < n) × (n % 65536 ≡ 0) × (n ≤ 4294967296)
    by true large e = let l : n ≡ 131072 = large refl in (omega arith, omega arith, omega arith)
    by false large e = let l : n ≡ 65536 = eqb-true n 65536 e in (omega arith, omega arith, omega arith)

pub register_long : (n : ℕ) → is_register n ≡ true → n ≡ 128
register_long n e = eqb-true n 128 e
