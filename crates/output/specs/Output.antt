-- What the part drives, and what the output positions read. How the record stands at the first bit of each position is an argument, `stand`.
-- Assumes nothing.
use Rattle.std.specs.Prelude.{ℕ, ◌+◌, ◌-◌, ◌*◌, ◌/◌, ◌%◌, ◌^◌, Bool, cond, List, [], ◌∷◌, length, get_or}
use Rattle.std.specs.Int.Bits.{bit_or}
use Rattle.cells.specs.Range.{range}
use Rattle.opcodes.specs.declared.Source.{Source}
use Rattle.opcodes.specs.declared.Source.TheVariants.{Array, Register, Status, Identity, Legacy}
use Rattle.device.specs.declared.Device.{Device}
use Rattle.judge.specs.declared.Action.{Action}
use Rattle.judge.specs.declared.Judged.{Judged}
use Rattle.device.specs.Status.{status_one, status_two}
use Rattle.calls.specs.Address.{address_of}

-- what can be read: so many bytes, and the byte at each place
pub record Store : Type 0 where
  pub size : ℕ
  pub at : ℕ → ℕ

abbrev pub store : List ℕ → Store
store memory = record { size = length memory; at = λ k. get_or memory k 0 }

-- where a read takes its bytes
abbrev pub store_of : Source → Device → Bool → Store → Store → Store
store_of Array d wp array register = array
store_of Register d wp array register = register
store_of Status d wp array register = store (status_one d wp ∷ status_two d ∷ [])
store_of Identity d wp array register = store (0x1F ∷ 0x42 ∷ 0x00 ∷ 0x00 ∷ [])
store_of Legacy d wp array register = store (0x1F ∷ 0x65 ∷ [])

-- and from which byte on: array and register are addressed
abbrev pub start_of : Source → List ℕ → ℕ
start_of Array input = address_of input
start_of Register input = address_of input
start_of Status input = 0
start_of Identity input = 0
start_of Legacy input = 0

-- its i-th byte from `start` on; past the last byte it goes on at 0, and address bits above the size are ignored
abbrev pub byte_from : Store → ℕ → ℕ → ℕ
byte_from m start i = m.at ((start + i) % m.size)

-- what is on the line at position k of a read that drives from `first` up to `end`: its byte, by the record at that position's first bit,
-- or FFh where the part does not drive
abbrev pub drive_at : Source → ℕ → ℕ → (ℕ → Device) → Bool → Store → Store → List ℕ → ℕ → ℕ
drive_at source first end stand wp array register input k =
    cond (range first end k) (byte_from (store_of source (stand k) wp array register) (start_of source input) (k - first)) 0xFF

-- what is on the line at position k: nothing but a read drives
abbrev pub line_at : Action → Judged → (ℕ → Device) → Bool → Store → Store → List ℕ → ℕ → ℕ
line_at Action.Still j stand wp array register input k = 0xFF
line_at (Action.Drive source) j stand wp array register input k = drive_at source j.first (j.first + j.driven) stand wp array register input k
line_at Action.Program j stand wp array register input k = 0xFF
line_at (Action.Erase region) j stand wp array register input k = 0xFF
line_at Action.Otp j stand wp array register input k = 0xFF

-- the bits of position k that were not clocked: FFh without as many high bits as were
abbrev pub unclocked : ℕ → ℕ → ℕ
unclocked bits k = 0xFF / 2 ^ (bits - 8 * k)

-- what position k reads: the line, with 1 for each bit that was not clocked
unfoldable pub read_at : Judged → (ℕ → Device) → Bool → ℕ → Store → Store → List ℕ → ℕ → ℕ
read_at j stand wp bits array register input k = bit_or (line_at j.action j stand wp array register input k) (unclocked bits k)
