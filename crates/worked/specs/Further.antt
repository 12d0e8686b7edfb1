-- Rows beyond P1 to P10, worked by hand too: each opcode, each duration, each way to be aborted or refused. Assumes
-- nothing.
use Rattle.std.specs.Prelude.{ℕ, Bool, true, false, List, [], ◌∷◌}
use Rattle.device.specs.declared.Device.{Device}
use Rattle.device.specs.declared.Mode.{Mode}
use Rattle.device.specs.declared.Mode.TheVariants.{Awake, Deep, UltraDeep}
use Rattle.worked.specs.Worked.{Exchange, Row}
use Rattle.worked.specs.Words.{held, stands, idle, enabled, busy, clocked, whole, low, came, quiet, nothing}
use Rattle.worked.specs.Words.{aborted, begun, refused, ◌⇒◌, piece, row, sized, registered}

-- a record of a part that is not protected, with all else said
abbrev told : Bool → Bool → Bool → Mode → ℕ → Device
told wel rste used mode busy = held false false wel rste used mode busy

-- 03 and 0B: data from position 4, or 5; a read too short to drive anything is a read
abbrev reads : Row
reads =
    row idle 0xC3
    ((whole (0x03 ∷ 0x00 ∷ 0x00 ∷ 0x00 ∷ 0x00 ∷ []) 0 ⇒ came "read" 4 1 idle (0xFF ∷ 0xFF ∷ 0xFF ∷ 0xFF ∷ 0xC3 ∷ [])) ∷
    (whole (0x0B ∷ 0x00 ∷ 0x00 ∷ 0x00 ∷ 0x00 ∷ 0x00 ∷ []) 0
    ⇒ came "read" 5 1 idle (0xFF ∷ 0xFF ∷ 0xFF ∷ 0xFF ∷ 0xFF ∷ 0xC3 ∷ [])) ∷
    (whole (0x03 ∷ 0x00 ∷ 0x00 ∷ 0x00 ∷ []) 0 ⇒ quiet "read" idle 4) ∷
    (clocked 33 (0x03 ∷ 0x00 ∷ 0x00 ∷ 0x00 ∷ 0x00 ∷ []) 0
    ⇒ came "read" 4 1 idle (0xFF ∷ 0xFF ∷ 0xFF ∷ 0xFF ∷ 0xFF ∷ [])) ∷
    (clocked 34 (0x03 ∷ 0x00 ∷ 0x00 ∷ 0x00 ∷ 0x00 ∷ []) 0
    ⇒ came "read" 4 1 idle (0xFF ∷ 0xFF ∷ 0xFF ∷ 0xFF ∷ 0xFF ∷ [])) ∷
    (clocked 35 (0x03 ∷ 0x00 ∷ 0x00 ∷ 0x00 ∷ 0x00 ∷ []) 0
    ⇒ came "read" 4 1 idle (0xFF ∷ 0xFF ∷ 0xFF ∷ 0xFF ∷ 0xDF ∷ [])) ∷
    [])
    []

-- 15: two positions; 3B and 00 are not listed; fewer than 8 bits are nothing
abbrev quiets : Row
quiets =
    row idle 0xFF
    ((whole (0x15 ∷ 0x00 ∷ 0x00 ∷ 0x00 ∷ []) 0 ⇒ came "read" 1 2 idle (0xFF ∷ 0x1F ∷ 0x65 ∷ 0xFF ∷ [])) ∷
    (whole (0x3B ∷ 0x00 ∷ 0x00 ∷ 0x00 ∷ 0x00 ∷ 0x00 ∷ []) 0 ⇒ nothing "unknown opcode" idle 6) ∷
    (whole (0x00 ∷ []) 0 ⇒ nothing "unknown opcode" idle 1) ∷
    (whole (0xAB ∷ []) 0 ⇒ nothing "already awake" idle 1) ∷
    (clocked 7 (0x06 ∷ []) 0 ⇒ nothing "too few bits" idle 1) ∷
    (clocked 9 (0x06 ∷ 0x00 ∷ []) 0 ⇒ nothing "off boundary" idle 2) ∷
    (whole [] 0 ⇒ nothing "too few bits" idle 0) ∷
    [])
    []

-- 06 and 04: bytes beyond the need are ignored
abbrev latches : Row
latches =
    row idle 0xFF
    ((whole (0x06 ∷ 0x99 ∷ []) 0 ⇒ quiet "control" enabled 2) ∷ (whole (0x04 ∷ []) 0 ⇒ quiet "control" idle 1) ∷ [])
    []

-- without WEL nothing is carried out and nothing aborted
abbrev unlatched : Row
unlatched =
    row idle 0x00
    ((whole (0x02 ∷ 0x00 ∷ 0x00 ∷ 0x00 ∷ 0xFF ∷ []) 0 ⇒ nothing "latch clear" idle 5) ∷
    (whole (0x81 ∷ 0x00 ∷ 0x00 ∷ 0x00 ∷ []) 0 ⇒ nothing "latch clear" idle 4) ∷
    (whole (0x60 ∷ []) 0 ⇒ nothing "latch clear" idle 1) ∷
    (whole (0x9B ∷ 0x00 ∷ 0x00 ∷ 0x00 ∷ 0x00 ∷ []) 0 ⇒ nothing "latch clear" idle 5) ∷
    (whole (0x01 ∷ 0x84 ∷ []) 0 ⇒ nothing "latch clear" idle 2) ∷
    (whole (0x31 ∷ 0x10 ∷ []) 0 ⇒ nothing "latch clear" idle 2) ∷
    [])
    []

-- with WEL what is short or off a boundary is aborted, and WEL drops
abbrev incomplete : List ℕ → ℕ → Exchange
incomplete bytes n = whole bytes 0 ⇒ aborted "incomplete" idle n

abbrev enable : Exchange
enable = whole (0x06 ∷ []) 0 ⇒ quiet "control" enabled 1

abbrev aborts : Row
aborts =
    row enabled 0x00
    (incomplete (0x02 ∷ 0x00 ∷ 0x00 ∷ 0x00 ∷ []) 4 ∷
    enable ∷
    incomplete (0x81 ∷ 0x00 ∷ 0x00 ∷ []) 3 ∷
    enable ∷
    incomplete (0x20 ∷ 0x00 ∷ 0x00 ∷ []) 3 ∷
    enable ∷
    incomplete (0x52 ∷ 0x00 ∷ 0x00 ∷ []) 3 ∷
    enable ∷
    incomplete (0xD8 ∷ 0x00 ∷ 0x00 ∷ []) 3 ∷
    enable ∷
    incomplete (0x9B ∷ 0x00 ∷ 0x00 ∷ 0x00 ∷ []) 4 ∷
    enable ∷
    incomplete (0x01 ∷ []) 1 ∷
    enable ∷
    incomplete (0x31 ∷ []) 1 ∷
    enable ∷
    (clocked 9 (0x60 ∷ 0x00 ∷ []) 0 ⇒ aborted "off boundary" idle 2) ∷
    [])
    []

-- BP0 keeps programs and erases of the array from being carried out, and not the OTP program
abbrev protected : Row
protected =
    registered 128 [] (piece 2 3 0x77 ∷ [])
    (row (stands false true true 0) 0x00
    ((whole (0x02 ∷ 0x00 ∷ 0x00 ∷ 0x00 ∷ 0xFF ∷ []) 0 ⇒ aborted "protected" (stands false true false 0) 5) ∷
    (whole (0x06 ∷ []) 0 ⇒ quiet "control" (stands false true true 0) 1) ∷
    (whole (0xC7 ∷ []) 0 ⇒ aborted "protected" (stands false true false 0) 1) ∷
    (whole (0x06 ∷ []) 0 ⇒ quiet "control" (stands false true true 0) 1) ∷
    (whole (0x9B ∷ 0x00 ∷ 0x00 ∷ 0x02 ∷ 0x77 ∷ []) 0 ⇒ quiet "begun" (held false true false false true Awake 400) 5) ∷
    [])
    [])

-- the other erases and their durations: 81, 52 and the three of the whole chip, with any address bytes
abbrev erases : ℕ → List ℕ → ℕ → ℕ → ℕ → ℕ → Row
erases code address n ticks from to =
    row enabled 0x00 ((whole (code ∷ address) 0 ⇒ begun from to (busy ticks) n) ∷ []) (piece from to 0xFF ∷ [])

abbrev page_erase : Row
page_erase = erases 0x81 (0x00 ∷ 0x12 ∷ 0x34 ∷ []) 4 7000 0x1200 0x1300

abbrev large_erase : Row
large_erase = erases 0x52 (0x00 ∷ 0x80 ∷ 0x01 ∷ []) 4 400000 0x8000 0x10000

abbrev chip_erase_60 : Row
chip_erase_60 = erases 0x60 [] 1 1600000 0 0x20000

abbrev chip_erase_c7 : Row
chip_erase_c7 = erases 0xC7 (0x12 ∷ 0x34 ∷ 0x56 ∷ []) 4 1600000 0 0x20000

abbrev chip_erase_62 : Row
chip_erase_62 = erases 0x62 [] 1 1600000 0 0x20000

-- 9B and 77: the data wraps in the user's 64 bytes, the read at 128; a second OTP program is aborted
abbrev otp : Row
otp =
    registered 128 [] (piece 63 64 0xA1 ∷ piece 0 1 0xA2 ∷ [])
    (row enabled 0xFF
    ((whole (0x9B ∷ 0xFF ∷ 0xFF ∷ 0xFF ∷ 0xA1 ∷ 0xA2 ∷ []) 0 ⇒ quiet "begun" (told false false true Awake 400) 6) ∷
    (whole (0x77 ∷ 0x00 ∷ 0x00 ∷ 0x3F ∷ 0x00 ∷ 0x00 ∷ 0x00 ∷ 0x00 ∷ []) 400 ⇒
    came "read" 6 2 (told false false true Awake 0) (0xFF ∷ 0xFF ∷ 0xFF ∷ 0xFF ∷ 0xFF ∷ 0xFF ∷ 0xA1 ∷ 0xFF ∷ [])) ∷
    (whole (0x77 ∷ 0x12 ∷ 0x34 ∷ 0xFF ∷ 0x00 ∷ 0x00 ∷ 0x00 ∷ 0x00 ∷ []) 0 ⇒
    came "read" 6 2 (told false false true Awake 0) (0xFF ∷ 0xFF ∷ 0xFF ∷ 0xFF ∷ 0xFF ∷ 0xFF ∷ 0xFF ∷ 0xA2 ∷ [])) ∷
    (whole (0x06 ∷ []) 0 ⇒ quiet "control" (told true false true Awake 0) 1) ∷
    (whole (0x9B ∷ 0x00 ∷ 0x00 ∷ 0x00 ∷ 0x00 ∷ []) 0 ⇒ aborted "already programmed" (told false false true Awake 0) 5) ∷
    [])
    [])

-- while busy only 05 and F0 are heard; a reset ends the busy time and drops WEL, and takes no change back
abbrev reset : Row
reset =
    row enabled 0x00
    ((whole (0x31 ∷ 0x10 ∷ []) 0 ⇒ quiet "control" (told false true false Awake 0) 2) ∷
    (whole (0x06 ∷ []) 0 ⇒ quiet "control" (told true true false Awake 0) 1) ∷
    (whole (0x20 ∷ 0x00 ∷ 0x00 ∷ 0x00 ∷ []) 0 ⇒ begun 0 0x1000 (told false true false Awake 50000) 4) ∷
    (whole (0x03 ∷ 0x00 ∷ 0x00 ∷ 0x00 ∷ 0x00 ∷ []) 1 ⇒ nothing "busy" (told false true false Awake 49999) 5) ∷
    (whole (0x06 ∷ []) 0 ⇒ nothing "busy" (told false true false Awake 49999) 1) ∷
    (whole (0x05 ∷ 0x00 ∷ 0x00 ∷ []) 0 ⇒ came "read" 1 2 (told false true false Awake 49999) (0xFF ∷ 0x11 ∷ 0x11 ∷ []))
    ∷
    (whole (0xF0 ∷ 0xD1 ∷ []) 0 ⇒ nothing "reset not enabled or not confirmed" (told false true false Awake 49999) 2) ∷
    (whole (0xF0 ∷ 0xD0 ∷ []) 0 ⇒ quiet "control" (told false true false Awake 0) 2) ∷
    [])
    (piece 0 0x1000 0xFF ∷ [])

-- a reset that RSTE does not enable is nothing
abbrev no_reset : Row
no_reset =
    row (busy 100) 0xFF
    ((whole (0xF0 ∷ 0xD0 ∷ []) 40 ⇒ nothing "reset not enabled or not confirmed" (busy 60) 2) ∷ []) []

-- deep power-down: only AB on a boundary is heard
abbrev deep : Row
deep =
    row idle 0xFF
    ((clocked 9 (0xB9 ∷ 0x00 ∷ []) 0 ⇒ nothing "off boundary" idle 2) ∷
    (whole (0xB9 ∷ []) 0 ⇒ quiet "control" (told false false false Deep 0) 1) ∷
    (whole (0x05 ∷ 0x00 ∷ []) 0 ⇒ nothing "asleep" (told false false false Deep 0) 2) ∷
    (clocked 9 (0xAB ∷ 0x00 ∷ []) 0 ⇒ nothing "asleep" (told false false false Deep 0) 2) ∷
    (whole (0xAB ∷ 0x00 ∷ []) 0 ⇒ quiet "control" idle 2) ∷
    [])
    []

-- a record in which BPL, BP0 and the OTP-used mark are up
abbrev protecting : Bool → Bool → Mode → Device
protecting wel rste mode = held true true wel rste true mode 0

-- ultra-deep power-down: any frame wakes the part, and WEL and RSTE are lost; BPL and BP0 stay
abbrev ultra : Row
ultra =
    row (protecting true true Awake) 0xFF
    ((whole (0x79 ∷ []) 0 ⇒ quiet "control" (protecting true true UltraDeep) 1) ∷
    (whole [] 0 ⇒ quiet "control" (protecting false false Awake) 0) ∷ [])
    []

-- 01 while BPL is 1: aborted with WP low; with WP high BPL alone is written
abbrev locked : Row
locked =
    row (stands true true true 0) 0xFF
    ((low (0x01 ∷ 0x00 ∷ []) 0 ⇒ aborted "locked" (stands true true false 0) 2) ∷
    (low (0x06 ∷ []) 0 ⇒ quiet "control" (stands true true true 0) 1) ∷
    (whole (0x01 ∷ 0x00 ∷ []) 0 ⇒ quiet "begun" (stands false true false 20000) 2) ∷
    (whole (0x06 ∷ []) 20000 ⇒ quiet "control" (stands false true true 0) 1) ∷
    (whole (0x01 ∷ 0x00 ∷ []) 0 ⇒ quiet "begun" (stands false false false 20000) 2) ∷
    [])
    []

-- refusals 4 and 6; 1 on an array of another size. A refused call's ticks are not counted.
abbrev refusals : Row
refusals =
    row (busy 50) 0xFF
    ((clocked 9 (0x05 ∷ []) 10 ⇒ refused 4 (busy 50) 1) ∷ (clocked 8 (0x05 ∷ 0x00 ∷ []) 10 ⇒ refused 4 (busy 50) 2) ∷
    (clocked 0 (0x05 ∷ []) 10 ⇒ refused 4 (busy 50) 1) ∷ [])
    []

abbrev too_busy : Row
too_busy = row (busy 60000001) 0xFF ((whole (0x05 ∷ 0x00 ∷ []) 60000001 ⇒ refused 6 (busy 60000001) 2) ∷ []) []

abbrev busy_asleep : Row
busy_asleep =
    row (told false false false Deep 1) 0xFF ((whole (0xAB ∷ []) 1 ⇒ refused 6 (told false false false Deep 1) 1) ∷ [])
    []

abbrev another_size : Row
another_size = sized 131071 (row enabled 0x00 ((whole (0x60 ∷ []) 0 ⇒ refused 1 enabled 1) ∷ []) [])

unfoldable pub further : List Row
further =
    reads ∷
    quiets ∷
    latches ∷
    unlatched ∷
    aborts ∷
    protected ∷
    page_erase ∷
    large_erase ∷
    chip_erase_60 ∷
    chip_erase_c7 ∷
    chip_erase_62 ∷
    otp ∷
    reset ∷
    no_reset ∷
    deep ∷
    ultra ∷
    locked ∷
    refusals ∷
    too_busy ∷
    busy_asleep ∷
    another_size ∷
    []
