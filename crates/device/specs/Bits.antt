-- A bit of a byte. Assumes nothing.
use Rattle.std.specs.Prelude.{ℕ, ◌/◌, ◌%◌, ◌^◌, Bool, eqb}

-- bit n of x is 1
abbrev pub bit : ℕ → ℕ → Bool
bit n x = eqb (x / 2 ^ n % 2) 1
