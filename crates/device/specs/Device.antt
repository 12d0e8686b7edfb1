-- The device record: what it holds is declared in src/lib.rt; here is what each step makes of it. Assumes nothing.
use Rattle.std.specs.Prelude.{ℕ, ◌-◌, Bool, true, false, cond, not, ◌&&◌, ◌||◌, ltb}
use Rattle.device.specs.declared.Device.{Device}
use Rattle.device.specs.declared.Mode.{Mode}
use Rattle.device.specs.declared.Mode.TheVariants.{Awake, Deep, UltraDeep}
use Rattle.settings.specs.Settings.{longest}
use Rattle.device.specs.Bits.{bit}

abbrev device : Bool → Bool → Bool → Bool → Bool → Mode → ℕ → Device
device bpl bp0 wel rste used mode busy = record { bpl = bpl; bp0 = bp0; wel = wel; rste = rste; used = used; mode = mode; busy = busy }

-- a fresh record: BPL, BP0 and the OTP-used mark as the caller says, all else clear, awake and idle
abbrev pub fresh : Bool → Bool → Bool → Device
fresh bpl bp0 used = device bpl bp0 false false used Awake 0

-- one field becomes another, and no other field moves
abbrev pub with_bpl : Device → Bool → Device
with_bpl d bpl = device bpl d.bp0 d.wel d.rste d.used d.mode d.busy

abbrev pub with_bp0 : Device → Bool → Device
with_bp0 d bp0 = device d.bpl bp0 d.wel d.rste d.used d.mode d.busy

abbrev pub with_wel : Device → Bool → Device
with_wel d wel = device d.bpl d.bp0 wel d.rste d.used d.mode d.busy

abbrev pub with_rste : Device → Bool → Device
with_rste d rste = device d.bpl d.bp0 d.wel rste d.used d.mode d.busy

abbrev pub with_used : Device → Bool → Device
with_used d used = device d.bpl d.bp0 d.wel d.rste used d.mode d.busy

abbrev pub with_mode : Device → Mode → Device
with_mode d mode = device d.bpl d.bp0 d.wel d.rste d.used mode d.busy

abbrev pub with_busy : Device → ℕ → Device
with_busy d busy = device d.bpl d.bp0 d.wel d.rste d.used d.mode busy

abbrev pub awake : Mode → Bool
awake Awake = true
awake Deep = false
awake UltraDeep = false

abbrev pub deep : Mode → Bool
deep Awake = false
deep Deep = true
deep UltraDeep = false

abbrev pub ultra_deep : Mode → Bool
ultra_deep Awake = false
ultra_deep Deep = false
ultra_deep UltraDeep = true

-- ticks are left
abbrev pub is_busy : Device → Bool
is_busy d = ltb 0 d.busy

-- refusal 6: more ticks left than an operation may take, or ticks left in a part that is not awake
abbrev pub unsound : Device → Bool
unsound d = ltb longest d.busy || (is_busy d && not (awake d.mode))

-- time passes: the busy ticks fall by the elapsed ones, down to 0 at most
abbrev pub passed : Device → ℕ → Device
passed d ticks = with_busy d (d.busy - ticks)

-- WEL becomes 1, or 0
abbrev pub latched : Device → Device
latched d = with_wel d true

abbrev pub dropped : Device → Device
dropped d = with_wel d false

-- the mode changes
abbrev pub moved : Device → Mode → Device
moved d mode = with_mode d mode

-- woken from ultra-deep: WEL and RSTE are lost, BPL and BP0 are kept
abbrev pub woken : Device → Device
woken d = moved (with_rste (dropped d) false) Awake

-- busy for so many ticks
abbrev pub working : Device → ℕ → Device
working d ticks = with_busy d ticks

-- reset: idle, and WEL 0; nothing else moves
abbrev pub reset : Device → Device
reset d = working (dropped d) 0

-- the OTP-used mark is set
abbrev pub marked : Device → Device
marked d = with_used d true

-- status byte 1 written: bit 7 goes to BPL, and bit 2 to BP0 unless BPL was 1
abbrev pub written : Device → ℕ → Device
written d byte = with_bpl (with_bp0 d (cond d.bpl d.bp0 (bit 2 byte))) (bit 7 byte)

-- status byte 2 written: bit 4 goes to RSTE
abbrev pub enabled : Device → ℕ → Device
enabled d byte = with_rste d (bit 4 byte)
