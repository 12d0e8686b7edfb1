-- The output in steps, as the code takes them: what is driven, with FFh before and behind it, then the bits that were not clocked. That
-- they make `read_at` is a law. Assumes nothing.
use Rattle.std.specs.Prelude.{ℕ, ◌-◌, Bool, List, []}
use Rattle.std.specs.Int.Bits.{bit_or}
use Rattle.cells.specs.Each.{Cell, stored, over}
use Rattle.cells.specs.Range.{range}
use Rattle.opcodes.specs.declared.Source.{Source}
use Rattle.device.specs.declared.Device.{Device}
use Rattle.output.specs.Output.{Store, store, store_of, start_of, byte_from, unclocked}

-- the positions from `first` up to `end` receive the source's bytes
abbrev pub sent : Source → (ℕ → Device) → Bool → Store → Store → List ℕ → ℕ → ℕ → Cell
sent source stand wp array register input first end =
    stored (range first end) (λ k. byte_from (store_of source (stand k) wp array register) (start_of source input) (k - first))

-- of those the status bytes, which need no memory
abbrev pub shown : (ℕ → Device) → Bool → ℕ → ℕ → Cell
shown stand wp first end = sent Source.Status stand wp (store []) (store []) [] first end

-- the bits that were not clocked read 1
abbrev pub clipped : ℕ → ℕ → Cell
clipped bytes bits = over (range 0 bytes) (λ k x. bit_or x (unclocked bits k))
