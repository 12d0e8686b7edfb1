-- Setting a range of places to one value, and copying a memory out to a range of places. Assumes nothing.
use Rattle.std.specs.Prelude.{ℕ, ◌+◌, ◌-◌, ◌%◌, Bool, ◌&&◌, List, leb, ltb, length, get_or}
use Rattle.cells.specs.Each.{Cell, stored}

-- the place k is in the range from `from` up to, not including, `to`
abbrev pub range : ℕ → ℕ → ℕ → Bool
range from to k = leb from k && ltb k to

-- each byte of the range becomes v
abbrev pub filled : ℕ → ℕ → ℕ → Cell
filled from to v = stored (range from to) (λ k. v)

-- an erase: each byte of the range becomes FFh
abbrev pub erased : ℕ → ℕ → Cell
erased from to = filled from to 0xFF

-- the range receives the bytes of a memory from `start` on, one after the other
abbrev pub run : ℕ → ℕ → List ℕ → ℕ → Cell
run from to memory start = stored (range from to) (λ k. get_or memory (start + (k - from)) 0)

-- the same, and past the memory's last byte it goes on at 0
abbrev pub copied : ℕ → ℕ → List ℕ → ℕ → Cell
copied from to memory start = stored (range from to) (λ k. get_or memory ((start + (k - from)) % length memory) 0)
