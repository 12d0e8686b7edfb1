-- Frames that take time, worked by hand: at 8 ticks a position, position 1 begins 8 ticks after the frame's first bit,
-- position 2 begins 16, position 3 begins 24 ticks after it. Assumes nothing.
use Rattle.std.specs.Prelude.{ℕ, Bool, true, false, List, [], ◌∷◌}
use Rattle.device.specs.declared.Device.{Device}
use Rattle.device.specs.declared.Mode.TheVariants.{Awake}
use Rattle.worked.specs.Worked.{Sent, Row}
use Rattle.worked.specs.Words.{held, idle, enabled, busy, clocked, whole, low, paced, came, quiet, nothing, begun}
use Rattle.worked.specs.Words.{refused, ◌⇒◌, piece, row, lasting}

-- a status read of five status bytes, at 8 ticks a position: 48 ticks in all
abbrev poll : Sent
poll = paced 8 (whole (0x05 ∷ 0x00 ∷ 0x00 ∷ 0x00 ∷ 0x00 ∷ 0x00 ∷ []) 0)

-- 20 ticks left: positions 1 and 2 show busy, and status byte 1 at position 3 is the first that does not
abbrev falls_in_byte_one : Row
falls_in_byte_one =
    row (busy 20) 0xFF ((poll ⇒ came "read" 1 5 idle (0xFF ∷ 0x11 ∷ 0x01 ∷ 0x10 ∷ 0x00 ∷ 0x10 ∷ [])) ∷ []) []

-- 12 ticks left: status byte 2 at position 2 is the first that does not
abbrev falls_in_byte_two : Row
falls_in_byte_two =
    row (busy 12) 0xFF ((poll ⇒ came "read" 1 5 idle (0xFF ∷ 0x11 ∷ 0x00 ∷ 0x10 ∷ 0x00 ∷ 0x10 ∷ [])) ∷ []) []

-- 16 ticks left: none is left at the very first bit of position 2; with one tick more, one is
abbrev falls_at_the_first_bit : Row
falls_at_the_first_bit =
    row (busy 16) 0xFF ((poll ⇒ came "read" 1 5 idle (0xFF ∷ 0x11 ∷ 0x00 ∷ 0x10 ∷ 0x00 ∷ 0x10 ∷ [])) ∷ []) []

abbrev one_tick_more : Row
one_tick_more =
    row (busy 17) 0xFF ((poll ⇒ came "read" 1 5 idle (0xFF ∷ 0x11 ∷ 0x01 ∷ 0x10 ∷ 0x00 ∷ 0x10 ∷ [])) ∷ []) []

-- busy does not fall in the frame: 100 less 48, and then less 4 and 48; at 0 ticks a position nothing passes
abbrev does_not_fall : Row
does_not_fall =
    row (busy 100) 0xFF
    ((poll ⇒ came "read" 1 5 (busy 52) (0xFF ∷ 0x11 ∷ 0x01 ∷ 0x11 ∷ 0x01 ∷ 0x11 ∷ [])) ∷
    (whole (0x05 ∷ 0x00 ∷ 0x00 ∷ []) 0 ⇒ came "read" 1 2 (busy 52) (0xFF ∷ 0x11 ∷ 0x01 ∷ [])) ∷
    (paced 8 (whole (0x05 ∷ 0x00 ∷ 0x00 ∷ 0x00 ∷ 0x00 ∷ 0x00 ∷ []) 4)
    ⇒ came "read" 1 5 idle (0xFF ∷ 0x11 ∷ 0x01 ∷ 0x11 ∷ 0x01 ∷ 0x11 ∷ [])) ∷
    [])
    []

-- a record in which BPL, BP0, WEL and RSTE are up
abbrev all_up : ℕ → Device
all_up busy = held true true true true false Awake busy

-- nothing else moves: these four are shown as they stand, with WP low, at 8 and 16 ticks busy, at 24 not
abbrev others_stand : Row
others_stand =
    row (all_up 20) 0xFF
    ((paced 8 (low (0x05 ∷ 0x00 ∷ 0x00 ∷ 0x00 ∷ []) 0) ⇒ came "read" 1 3 (all_up 0) (0xFF ∷ 0x87 ∷ 0x11 ∷ 0x86 ∷ [])) ∷
    []) []

-- a byte of which some bits are clocked is a position too, be it a single bit; a frame of no bits takes no ticks
abbrev positions : Row
positions =
    row (busy 100) 0xFF
    ((paced 8 (clocked 11 (0x05 ∷ 0x00 ∷ []) 0) ⇒ came "read" 1 1 (busy 84) (0xFF ∷ 0x1F ∷ [])) ∷
    (paced 8 (clocked 1 (0x05 ∷ []) 0) ⇒ nothing "too few bits" (busy 76) 1) ∷
    (paced 1000 (whole [] 0) ⇒ nothing "too few bits" (busy 76) 0) ∷
    [])
    []

-- busy at its first bit a frame is ignored, also if busy ends inside it; if busy ends with the ticks elapsed before, it
-- is heard
abbrev ignored : Row
ignored =
    row (busy 10) 0x00
    ((paced 8 (whole (0x03 ∷ 0x00 ∷ 0x00 ∷ 0x00 ∷ 0x00 ∷ []) 9) ⇒ nothing "busy" idle 5) ∷
    (paced 8 (whole (0x03 ∷ 0x00 ∷ 0x00 ∷ 0x00 ∷ 0x00 ∷ []) 0)
    ⇒ came "read" 4 1 idle (0xFF ∷ 0xFF ∷ 0xFF ∷ 0xFF ∷ 0x00 ∷ [])) ∷
    [])
    []

abbrev heard : Row
heard = row (busy 10) 0xFF ((paced 8 (whole (0x06 ∷ []) 10) ⇒ quiet "control" enabled 1) ∷ []) []

-- the frame's own ticks come off before its operation starts, which takes its full duration
abbrev begins_at_the_rise : Row
begins_at_the_rise =
    row enabled 0xFF
    ((paced 1000 (whole (0x02 ∷ 0x00 ∷ 0x00 ∷ 0x00 ∷ 0x5A ∷ []) 0) ⇒ begun 0 0x100 (busy 12) 5) ∷
    (paced 2 (whole (0x05 ∷ 0x00 ∷ 0x00 ∷ []) 3) ⇒ came "read" 1 2 (busy 3) (0xFF ∷ 0x11 ∷ 0x01 ∷ [])) ∷
    [])
    (piece 0 1 0x5A ∷ [])

-- a record in which RSTE is up, and WEL as said
abbrev resettable : Bool → ℕ → Device
resettable wel busy = held false false wel true false Awake busy

-- a reset leaves the part idle and WEL 0; one that is not confirmed takes its ticks and no more
abbrev resets : Row
resets =
    row (resettable true 100) 0xFF
    ((paced 8 (whole (0xF0 ∷ 0xD1 ∷ []) 0) ⇒ nothing "reset not enabled or not confirmed" (resettable true 84) 2) ∷
    (paced 8 (whole (0xF0 ∷ 0xD0 ∷ []) 0) ⇒ quiet "control" (resettable false 0) 2) ∷
    [])
    []

-- refusal 8: 1,001 ticks a position are refused, and then neither number counts; 1,000 are accepted, also with 2^64 - 1
-- ticks elapsed, where the sum of the two would not fit 64 bits
abbrev eight : Row
eight =
    row (busy 5000) 0xFF
    ((paced 1001 (whole (0x05 ∷ 0x00 ∷ []) 7) ⇒ refused 8 (busy 5000) 2) ∷
    (paced 1000 (whole (0x05 ∷ 0x00 ∷ []) 7) ⇒ came "read" 1 1 (busy 2993) (0xFF ∷ 0x11 ∷ [])) ∷
    (paced 1000 (whole (0x05 ∷ 0x00 ∷ []) 18446744073709551615) ⇒ came "read" 1 1 idle (0xFF ∷ 0x10 ∷ [])) ∷
    [])
    []

-- and 7 before 8: a duration of 0 ticks
abbrev seven_first : Row
seven_first =
    lasting (12 ∷ 2000 ∷ 7000 ∷ 50000 ∷ 400000 ∷ 1600000 ∷ 400 ∷ 0 ∷ [])
    (row enabled 0x00 ((paced 1001 (whole (0x60 ∷ []) 0) ⇒ refused 7 enabled 1) ∷ []) [])

unfoldable pub polls : List Row
polls =
    falls_in_byte_one ∷ falls_in_byte_two ∷ falls_at_the_first_bit ∷ one_tick_more ∷ does_not_fall ∷ others_stand ∷
    positions ∷ ignored ∷ heard ∷
    begins_at_the_rise ∷ resets ∷ eight ∷ seven_first ∷ []
