-- The range that an operation covers: outside it no byte changes, and it holds a place exactly if the array is worked on. Assumes nothing.
use Prim.Native.Nat.{ℕ, ◌+◌, ◌%◌, ◌<◌}
use mathlib.Core.Bool.{true, false}
use mathlib.Core.List.{List}
use mathlib.Core.Path.{◌≡◌, refl}
use native.Mathlib.Nat.{mod-lt}
use native.Mathlib.Omega.{arith}
use borrow.Author.Tests.{lt-ltb}
use lib.Dec.{ltb}
use Rattle.cells.specs.Range.{range}
use Rattle.cells.proofs.Places.{over_out}
use Rattle.judge.specs.declared.Action.{Action}
use Rattle.judge.specs.Begins.{changes_array}
use Rattle.memories.specs.Sizes.{is_array}
use Rattle.memories.proofs.Long.{array_long}
use Rattle.calls.specs.Address.{address_of}
use Rattle.operations.specs.Operations.{Operation, none, program, erase, cell_of, block_of, width_of, on_array}
use Rattle.operations.specs.Operations.{range_of}
use Rattle.operations.proofs.Blocks.{block_inside}

-- a byte outside the range stays
pub outside : (o : Operation) (k x : ℕ) → range (range_of o).from (range_of o).to k ≡ false → cell_of o k x ≡ x
outside none k x e = refl
outside (program size page start sent) k x e = over_out _ _ k x (rw e)
outside (erase from to) k x e = over_out _ _ k x e

-- the range of an action on an array is empty, unless the action changes the array
pub holds_a_place : (a : Action) (size : ℕ) (input : List ℕ) → is_array size ≡ true
    → ltb (range_of (on_array a size input)).from (range_of (on_array a size input)).to ≡ changes_array a
holds_a_place Action.Still size input e = refl
holds_a_place (Action.Drive source) size input e = refl
holds_a_place Action.Program size input e = let page = block_of 256 (address_of input % size) in lt-ltb page (page + 256) (omega arith)
holds_a_place (Action.Erase region) size input e =
    let long = array_long size e in
    let width : 0 < width_of region size = (block_inside region size (address_of input % size) long.0 long.1 (mod-lt (address_of input) long.0)).0 in
    let block = block_of (width_of region size) (address_of input % size) in
    lt-ltb block (block + width_of region size) (omega arith)
holds_a_place Action.Otp size input e = refl
