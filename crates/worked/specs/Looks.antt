-- Looks without a frame, worked by hand: which bytes are seen, and where they lie. Assumes nothing.
use Rattle.std.specs.Prelude.{ℕ, List, [], ◌∷◌, ◌++◌, ◌≡◌, replicate}
use Rattle.memories.specs.declared.Memory.{Memory}
use Rattle.memories.specs.Look.{looked_at, looked_from, length_in}
use Rattle.worked.specs.Words.{counting}

-- 65,536 bytes that begin with 40h and on and end with 80h and on; 131,072 that end with C1h C2h; a register of 80h and
-- on
abbrev small : List ℕ
small = counting 0x40 16 ++ replicate 65504 0x11 ++ counting 0x80 16

abbrev large : List ℕ
large = counting 0x40 16 ++ replicate 131054 0x11 ++ (0xC1 ∷ 0xC2 ∷ [])

abbrev register : List ℕ
register = counting 0x80 128

-- a view of an array beside a register of 127 bytes, which does not bear on it; of the register beside an array of one
-- byte
abbrev of_array : List ℕ → ℕ → ℕ → List ℕ
of_array array address count = looked_at Memory.Array array (replicate 127 0x00) address count

abbrev of_register : List ℕ → ℕ → ℕ → List ℕ
of_register register address count = looked_at Memory.Register (0x00 ∷ []) register address count

pub record Looks : Type 0 where
  -- from the address, reduced to the size, up to the count or the memory's end, never round the corner
  pub at_the_beginning : of_array small 0x0 3 ≡ 0x40 ∷ 0x41 ∷ 0x42 ∷ []
  pub up_to_the_end : of_array small 0xFFFE 5 ≡ 0x8E ∷ 0x8F ∷ []
  pub of_any_count : of_array small 0xFFF0 18446744073709551615 ≡ counting 0x80 16
  pub reduced : of_array small 0x1FFFF 1 ≡ 0x8F ∷ []
  pub reduced_to_0 : of_array small 0x10000 1 ≡ 0x40 ∷ []
  pub of_nothing : of_array small 0x5 0 ≡ []
  pub of_the_large : of_array large 0x1FFFE 9 ≡ 0xC1 ∷ 0xC2 ∷ []
  pub of_the_large_reduced : of_array large 0xFE0001 2 ≡ 0x41 ∷ 0x42 ∷ []
  pub of_a_register : of_register register 0x101 2 ≡ 0x81 ∷ 0x82 ∷ []
  pub of_its_end : of_register register 0x7F 3 ≡ 0xFF ∷ []
  -- a wrong length of the chosen memory gives an empty view
  pub array_too_short : of_array (replicate 65535 0x11) 0x0 3 ≡ []
  pub array_too_long : of_array (0x11 ∷ large) 0x0 3 ≡ []
  pub register_too_short : of_register (counting 0x80 127) 0x0 3 ≡ []
  pub register_too_long : of_register (counting 0x80 129) 0x0 3 ≡ []
  -- its length, told from the two lengths alone
  pub length_up_to_the_end : length_in Memory.Array 65536 127 0xFFFE 5 ≡ 2
  pub length_of_the_count : length_in Memory.Array 131072 127 0xFFFE 5 ≡ 5
  pub length_in_the_register : length_in Memory.Register 1 128 0x17C 5 ≡ 4
  pub no_length : length_in Memory.Register 65536 129 0x0 5 ≡ 0
  -- it lies in the chosen memory itself: the array at offset 10 of a block, the register at offset 20 of another
  pub lies_in_the_array : looked_from Memory.Array (1, 10) (2, 20) small register 0x10005 ≡ (1, 15)
  pub lies_in_the_register : looked_from Memory.Register (1, 10) (2, 20) small register 0x105 ≡ (2, 25)
