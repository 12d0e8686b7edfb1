-- The status bytes, by the sheet's tables 6 and 7. Assumes nothing.
use Rattle.std.specs.Prelude.{ℕ, ◌+◌, ◌^◌, Bool, cond}
use Rattle.device.specs.declared.Device.{Device}
use Rattle.device.specs.Device.{is_busy}

-- a byte in which bit n alone says b
abbrev flag : ℕ → Bool → ℕ
flag n b = cond b (2 ^ n) 0

-- BPL at bit 7, a high WP at bit 4, BP0 at bit 2, WEL at bit 1, busy at bit 0, and zeros between
abbrev pub status_one : Device → Bool → ℕ
status_one d wp = flag 7 d.bpl + flag 4 wp + flag 2 d.bp0 + flag 1 d.wel + flag 0 (is_busy d)

-- RSTE at bit 4, busy at bit 0, and zeros elsewhere
abbrev pub status_two : Device → ℕ
status_two d = flag 4 d.rste + flag 0 (is_busy d)
