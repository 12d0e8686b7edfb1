-- Time within a frame: each byte position takes the same number of ticks, the frame's pace. Assumes nothing.
use Rattle.std.specs.Prelude.{ℕ, ◌*◌, ◌<◌, ◌≤◌, ◌-◌, ◌≡◌, ltb}
use Rattle.device.specs.declared.Device.{Device}
use Rattle.device.specs.Device.{passed}

-- the record at the first bit of position k, of a frame at whose first bit it stands as d
abbrev pub standing : Device → ℕ → ℕ → Device
standing d pace k = passed d (k * pace)

-- of the positions from `first` up to `end` exactly those before `turn` begin while busy ticks are left
abbrev pub BusyBefore : ℕ → ℕ → ℕ → ℕ → ℕ → Type 0
BusyBefore busy pace first end turn = (k : ℕ) → first ≤ k → k < end → ltb 0 (busy - k * pace) ≡ ltb k turn
