-- What a frame does to the array and to the register: an operation on places, and the range that it lies in. Assumes
-- nothing.
use Rattle.std.specs.Prelude.{ℕ, ◌≡◌, ◌<◌, ◌+◌, ◌*◌, ◌/◌, ◌%◌, List, drop}
use Rattle.cells.specs.Each.{Cell}
use Rattle.pages.specs.Page.{programmed}
use Rattle.cells.specs.Range.{erased}
use Rattle.opcodes.specs.declared.Region.{Region}
use Rattle.opcodes.specs.declared.Region.TheVariants.{Page, Small, Large, Chip}
use Rattle.judge.specs.declared.Action.{Action}
use Rattle.calls.specs.Address.{address_of}
use Rattle.operations.specs.declared.Range.{Range}

-- no operation; a program of the page of `size` bytes at `page`, whose first data byte aims at the offset `start`; an
-- erase of a range
pub data Operation : Type 0 where
  none : Operation
  program : (size page start : ℕ) (sent : List ℕ) → Operation
  erase : (from to : ℕ) → Operation

-- what it does to a byte at its place
abbrev pub cell_of : Operation → Cell
cell_of none = λ k x. x
cell_of (program size page start sent) = programmed size page start sent
cell_of (erase from to) = erased from to

-- the places from `from` up to, not including, `to`
abbrev pub span : ℕ → ℕ → Range
span from to = record { from = from; to = to }

-- no place
abbrev pub nowhere : Range
nowhere = span 0 0

-- the range that an operation lies in: the page of a program, the places of an erase
abbrev pub range_of : Operation → Range
range_of none = nowhere
range_of (program size page start sent) = span page (page + size)
range_of (erase from to) = span from to

-- an array of that size has bytes, and whole blocks of 64 KiB
abbrev pub HasBlocks : ℕ → Type 0
HasBlocks size = (0 < size) × (size % 65536 ≡ 0)

-- the first place of the block of `width` bytes that holds a place: its low address bits are ignored
abbrev pub block_of : ℕ → ℕ → ℕ
block_of width place = place / width * width

-- the bytes behind the address are programmed into the page of 256 bytes that holds the place
abbrev pub program_at : ℕ → List ℕ → Operation
program_at place input = program 256 (block_of 256 place) (place % 256) (drop 4 input)

-- the block of `width` bytes that holds the place is erased
abbrev pub erase_at : ℕ → ℕ → Operation
erase_at width place = erase (block_of width place) (block_of width place + width)

-- how many bytes a region has, in an array of `size` bytes
abbrev pub width_of : Region → ℕ → ℕ
width_of Page size = 256
width_of Small size = 4096
width_of Large size = 32768
width_of Chip size = size

-- on an array of `size` bytes; address bits above its size are ignored
abbrev pub on_array : Action → ℕ → List ℕ → Operation
on_array Action.Still size input = none
on_array (Action.Drive source) size input = none
on_array Action.Program size input = program_at (address_of input % size) input
on_array (Action.Erase region) size input = erase_at (width_of region size) (address_of input % size)
on_array Action.Otp size input = none

-- on the register: the user's 64 bytes, from 0 on, are the page, and of the address the low six bits count
abbrev pub on_register : Action → List ℕ → Operation
on_register Action.Still input = none
on_register (Action.Drive source) input = none
on_register Action.Program input = none
on_register (Action.Erase region) input = none
on_register Action.Otp input = program 64 0 (address_of input % 64) (drop 4 input)
