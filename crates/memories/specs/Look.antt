-- A look at a lent memory without a frame: which view of that memory the caller gets back. Assumes nothing.
use Rattle.std.specs.Prelude.{ℕ, ◌+◌, ◌-◌, ◌%◌, min, cond, List, [], length, take, drop}
use Rattle.memories.specs.declared.Memory.{Memory}
use Rattle.memories.specs.Sizes.{is_array, is_register}

-- where the view begins: address bits above the memory's size are ignored
abbrev pub start_of : List ℕ → ℕ → ℕ
start_of memory address = address % length memory

-- how long it is: the count, or what is left up to the memory's end
abbrev pub length_of : List ℕ → ℕ → ℕ → ℕ
length_of memory address count = min count (length memory - start_of memory address)

abbrev pub view_of : List ℕ → ℕ → ℕ → List ℕ
view_of memory address count = take (length_of memory address count) (drop (start_of memory address) memory)

-- the view of the chosen memory; an empty one if that memory's length is wrong
abbrev pub looked_at : Memory → List ℕ → List ℕ → ℕ → ℕ → List ℕ
looked_at Memory.Array array register address count = cond (is_array (length array)) (view_of array address count) []
looked_at Memory.Register array register address count =
    cond (is_register (length register)) (view_of register address count) []

-- where in the chosen memory it begins, from the two lengths
abbrev pub start_in : Memory → ℕ → ℕ → ℕ → ℕ
start_in Memory.Array array register address = cond (is_array array) (address % array) 0
start_in Memory.Register array register address = cond (is_register register) (address % register) 0

-- how long it is, from the two lengths
abbrev pub length_in : Memory → ℕ → ℕ → ℕ → ℕ → ℕ
length_in Memory.Array array register address count = cond (is_array array) (min count (array - address % array)) 0
length_in Memory.Register array register address count =
    cond (is_register register) (min count (register - address % register)) 0

-- where it lies: a place of the machine's memory is a block and an offset in it; so many bytes behind a place
abbrev pub behind : ℕ × ℕ → ℕ → ℕ × ℕ
behind place n = (place.0, n + place.1)

-- in the chosen memory itself, at the view's start; the empty view for a wrong length begins where that memory does
abbrev pub looked_from : Memory → ℕ × ℕ → ℕ × ℕ → List ℕ → List ℕ → ℕ → ℕ × ℕ
looked_from Memory.Array a r array register address =
    behind a (start_in Memory.Array (length array) (length register) address)
looked_from Memory.Register a r array register address =
    behind r (start_in Memory.Register (length array) (length register) address)
