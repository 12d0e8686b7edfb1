-- The blocks of an array lie in it: one law over the region and the array's size; and so do its operations. Assumes nothing.
use Prim.Native.Nat.{ℕ, ◌+◌, ◌*◌, ◌/◌, ◌%◌, ◌<◌, ◌≤◌}
use mathlib.Core.Bool.{true}
use mathlib.Core.List.{List}
use mathlib.Core.Path.{◌≡◌, refl, ap}
use native.Mathlib.Nat.{div-eq_of_lt, mod-lt}
use native.Mathlib.Omega.{arith}
use Rattle.cells.proofs.Places.{over_out}
use Rattle.cells.proofs.Runs.{range_behind}
use Rattle.opcodes.specs.declared.Region.{Region}
use Rattle.opcodes.specs.declared.Region.TheVariants.{Page, Small, Large, Chip}
use Rattle.judge.specs.declared.Action.{Action}
use Rattle.memories.specs.Sizes.{is_array}
use Rattle.memories.proofs.Long.{array_long}
use Rattle.calls.specs.Address.{address_of}
use Rattle.operations.specs.Operations.{block_of, width_of, cell_of, on_array, on_register}

-- the whole array is one block, which begins at 0
pub whole_block : (size place : ℕ) → place < size → block_of size place ≡ 0
whole_block size place l = let e : place / size ≡ 0 = div-eq_of_lt l in omega (arith, ap (λ (q : ℕ). q * size) e)

pub block_inside : (region : Region) (size place : ℕ) → 0 < size → size % 65536 ≡ 0 → place < size
    → (0 < width_of region size) × (block_of (width_of region size) place + width_of region size ≤ size)
block_inside Page size place p m l = (omega arith, omega arith)
block_inside Small size place p m l = (omega arith, omega arith)
block_inside Large size place p m l = (omega arith, omega arith)
block_inside Chip size place p m l = (p, omega (arith, whole_block size place l))

-- an operation on an array leaves what lies behind the array alone
pub operation_inside : (a : Action) (size : ℕ) (input : List ℕ) → is_array size ≡ true → (k x : ℕ) → size ≤ k → cell_of (on_array a size input) k x ≡ x
operation_inside Action.Still size input e k x l = refl
operation_inside (Action.Drive source) size input e k x l = refl
operation_inside Action.Program size input e k x l =
    let long = array_long size e in
    let place = address_of input % size in
    let fits : block_of 256 place + 256 ≤ size = (block_inside Page size place long.0 long.1 (mod-lt (address_of input) long.0)).1 in
    over_out _ _ k x (rw (range_behind (block_of 256 place) (block_of 256 place + 256) k (omega arith)))
operation_inside (Action.Erase region) size input e k x l =
    let long = array_long size e in
    let place = address_of input % size in
    let start = block_of (width_of region size) place in
    let fits : start + width_of region size ≤ size = (block_inside region size place long.0 long.1 (mod-lt (address_of input) long.0)).1 in
    over_out _ _ k x (range_behind start (start + width_of region size) k (omega arith))
operation_inside Action.Otp size input e k x l = refl

-- and one on the register what lies behind the user's bytes
pub once_inside : (a : Action) (input : List ℕ) (k x : ℕ) → 64 ≤ k → cell_of (on_register a input) k x ≡ x
once_inside Action.Still input k x l = refl
once_inside (Action.Drive source) input k x l = refl
once_inside Action.Program input k x l = refl
once_inside (Action.Erase region) input k x l = refl
once_inside Action.Otp input k x l = over_out _ _ k x (rw (range_behind 0 64 k l))
