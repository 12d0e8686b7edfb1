-- When a frame takes effect on the array, and what the effect is: demand 2's "exactly when". Assumes nothing.
use Rattle.std.specs.Prelude.{Bool, ◌&&◌, eqb}
use Rattle.opcodes.specs.Rows.{row_of}
use Rattle.judge.specs.Begins.{asks_for, ready}
use Rattle.calls.specs.declared.Lengths.{Lengths}
use Rattle.part.specs.Frame.{Call, number_for, risen, facts_of}
use Rattle.operations.specs.Operations.{Operation, on_array}

-- the call is accepted, and the frame is a program or an erase, complete, on a boundary, with WEL 1, the part awake,
-- idle at the frame's first bit, BP0 0
abbrev pub takes_effect : Call → Lengths → Bool
takes_effect c lengths = eqb (number_for c lengths) 0 && ready (risen c) (facts_of c)

-- the operation that the frame's opcode asks for
abbrev pub operation_of : Call → Lengths → Operation
operation_of c lengths = on_array (asks_for (row_of (facts_of c).code).command) lengths.array c.input
