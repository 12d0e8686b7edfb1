-- The address in a frame. Assumes nothing.
use Rattle.std.specs.Prelude.{ℕ, ◌+◌, ◌*◌, List, get_or}

-- the three bytes behind the opcode, high first
abbrev pub address_of : List ℕ → ℕ
address_of input = get_or input 1 0 * 65536 + get_or input 2 0 * 256 + get_or input 3 0
