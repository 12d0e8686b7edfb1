-- The sizes of an array, and of a security register, in bytes. Assumes nothing.
use Rattle.std.specs.Prelude.{ℕ, Bool, ◌||◌, eqb}

-- the array's length: the part's own, or the bench's small one
abbrev pub is_array : ℕ → Bool
is_array length = eqb length 131072 || eqb length 65536

-- the security register's length
abbrev pub is_register : ℕ → Bool
is_register length = eqb length 128
