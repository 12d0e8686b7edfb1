-- Rows of what changes array and register, worked by hand: data that differs at each place, both sizes of the array,
-- high addresses. Assumes nothing.
use Rattle.std.specs.Prelude.{ℕ, Bool, true, false, List, [], ◌∷◌, ◌++◌, length, replicate}
use Rattle.device.specs.declared.Device.{Device}
use Rattle.device.specs.declared.Mode.TheVariants.{Awake}
use Rattle.worked.specs.Worked.{Exchange, Piece, Row}
use Rattle.worked.specs.Frames.{latched, longer, array_frames, above, reads, orders}
use Rattle.worked.specs.Words.{held, stands, idle, enabled, busy, worn, counting, clocked, whole, low, wholes}
use Rattle.worked.specs.Words.{paced, header, came, quiet, nothing, aborted, begun, ◌⇒◌, unmoved, aborting}
use Rattle.worked.specs.Words.{piece, rising, bytes, row, lasting, sized, registered}

-- with WEL 0 none is carried out, whatever the other flags
abbrev without_wel : Device → Row
without_wel d = row d 0x00 (unmoved (nothing "latch clear") d (wholes latched)) []

-- busy, none is and WEL stays; nor is any other command then but 05 and F0, which wants D0
abbrev while_busy : Device → Row
while_busy d =
    row d 0x00
    (unmoved (nothing "busy") d
    (wholes (latched ++ reads ++ orders ++ ((0xAB ∷ []) ∷ (0x00 ∷ []) ∷ (0x02 ∷ 0xD0 ∷ []) ∷ []))) ++
    ((whole (0xF0 ∷ 0xD1 ∷ []) 0 ⇒ nothing "reset not enabled or not confirmed" d 2) ∷ []))
    []

-- off a boundary each is aborted, though it is complete without the byte of which four bits were clocked, or two, or
-- seven
abbrev cut_by_four : Row
cut_by_four =
    row (held true false true true false Awake 0) 0x00
    (aborting "off boundary" true 4 (held true false true true false Awake 0) (held true false false true false Awake 0)
    longer) []

abbrev cut_by_six : Row
cut_by_six =
    row (held false true true false true Awake 0) 0x00
    (aborting "off boundary" true 6 (held false true true false true Awake 0) (held false true false false true Awake 0)
    longer) []

abbrev cut_by_one : Row
cut_by_one = row enabled 0x00 (aborting "off boundary" true 1 enabled idle longer) []

-- protected by BP0: neither BPL nor WP bears on it, nor the address
abbrev guarded_array : Bool → Bool → List (List ℕ) → Row
guarded_array bpl wp frames =
    row (stands bpl true true 0) 0x00
    (aborting "protected" wp 0 (stands bpl true true 0) (stands bpl true false 0) frames) []

abbrev worn_enabled : Device
worn_enabled = held true false true true true Awake 0

-- Programs. 0Fh, 33h, 55h and F0h on 3Ch leave 0Ch, 30h, 14h and 30h; the page of 0180FEh ends after two bytes
abbrev programs_four : Row
programs_four =
    row worn_enabled 0x3C
    ((low (0x02 ∷ 0xFD ∷ 0x80 ∷ 0xFE ∷ 0x0F ∷ 0x33 ∷ 0x55 ∷ 0xF0 ∷ []) 0 ⇒ begun 0x18000 0x18100 (worn 2000) 8) ∷ [])
    (bytes 0x180FE (0x0C ∷ 0x30 ∷ []) ++ bytes 0x18000 (0x14 ∷ 0x30 ∷ []))

abbrev programs_four_small : Row
programs_four_small =
    sized 65536
    (row worn_enabled 0x3C
    ((whole (0x02 ∷ 0xFD ∷ 0x80 ∷ 0xFE ∷ 0x0F ∷ 0x33 ∷ 0x55 ∷ 0xF0 ∷ []) 0 ⇒ begun 0x8000 0x8100 (worn 2000) 8) ∷ [])
    (bytes 0x80FE (0x0C ∷ 0x30 ∷ []) ++ bytes 0x8000 (0x14 ∷ 0x30 ∷ [])))

-- a byte of FFh is programmed too, though nothing changes
abbrev programs_ff : Row
programs_ff =
    row enabled 0x3C ((low (0x02 ∷ 0x00 ∷ 0x12 ∷ 0x00 ∷ 0xFF ∷ []) 0 ⇒ begun 0x1200 0x1300 (busy 12) 5) ∷ []) []

-- two data bytes take the longer duration, at a page's last offset the second goes to its first
abbrev programs_two : Row
programs_two =
    row enabled 0xFF
    ((low (0x02 ∷ 0x00 ∷ 0x12 ∷ 0xFF ∷ 0xA1 ∷ 0xA2 ∷ []) 0 ⇒ begun 0x1200 0x1300 (busy 2000) 6) ∷ [])
    (piece 0x12FF 0x1300 0xA1 ∷ piece 0x1200 0x1201 0xA2 ∷ [])

-- 255 data bytes from offset 10h on leave the place before it
abbrev programs_255 : Row
programs_255 =
    row enabled 0xFF
    ((low (0x02 ∷ 0x00 ∷ 0x05 ∷ 0x10 ∷ counting 0x21 255) 0 ⇒ begun 0x500 0x600 (busy 2000) 259) ∷ [])
    (rising 0x510 0x600 0x21 ∷ rising 0x500 0x50F 0x11 ∷ [])

-- 256 from offset 7 on fill the page
abbrev programs_256 : Row
programs_256 =
    row enabled 0xFF
    ((whole (0x02 ∷ 0x00 ∷ 0x05 ∷ 0x07 ∷ counting 0x09 256) 0 ⇒ begun 0x500 0x600 (busy 2000) 260) ∷ [])
    (rising 0x507 0x600 0x09 ∷ rising 0x500 0x507 0x02 ∷ [])

-- of 257 from offset 80h on the first, 00h, is replaced by the last, 02h
abbrev programs_257 : Row
programs_257 =
    row enabled 0xFF
    ((low (0x02 ∷ 0x01 ∷ 0xFF ∷ 0x80 ∷ 0x00 ∷ counting 0x03 256) 0 ⇒ begun 0x1FF00 0x20000 (busy 2000) 261) ∷ [])
    (rising 0x1FF81 0x20000 0x03 ∷ rising 0x1FF00 0x1FF81 0x82 ∷ [])

-- of 300 from offset 10h on the first 44 do not count: the 45th aims at 3Ch
abbrev programs_300 : Row
programs_300 =
    sized 65536
    (row enabled 0xFF
    ((whole (0x02 ∷ 0x01 ∷ 0x05 ∷ 0x10 ∷ (replicate 44 0x00 ++ counting 0x05 256)) 0
    ⇒ begun 0x500 0x600 (busy 2000) 304) ∷ [])
    (rising 0x53C 0x600 0x05 ∷ rising 0x500 0x53C 0xC9 ∷ []))

-- a register whose user's 64 bytes hold 3Ch, and the factory's 80h and on
abbrev made : List Piece
made = piece 0 64 0x3C ∷ rising 64 128 0x80 ∷ []

-- Erases, with BPL 1 and WP low: the region around the address, on either size; the register stays
abbrev erasing : ℕ → List ℕ → ℕ → ℕ → ℕ → Row
erasing size frame ticks from to =
    registered 128 made []
    (sized size
    (row worn_enabled 0x00 ((low frame 0 ⇒ begun from to (worn ticks) (length frame)) ∷ []) (piece from to 0xFF ∷ [])))

-- Other durations, on the small array, at 8 ticks a position: each operation lasts its own, and 06 is heard when as
-- many have passed
abbrev lasts : ℕ → Device
lasts ticks = held false false false true false Awake ticks

abbrev once_more : ℕ → Exchange
once_more ticks = low (0x06 ∷ []) ticks ⇒ quiet "control" (held false false true true false Awake 0) 1

abbrev other_times : Row
other_times =
    lasting (3 ∷ 5 ∷ 7 ∷ 11 ∷ 13 ∷ 17 ∷ 19 ∷ 23 ∷ [])
    (registered 128 [] (piece 2 3 0x5A ∷ [])
    (sized 65536
    (row (held false false true true false Awake 0) 0x00
    ((paced 8 (low (0x02 ∷ 0x00 ∷ 0x00 ∷ 0x10 ∷ 0x5A ∷ []) 0) ⇒ begun 0 0x100 (lasts 3) 5) ∷
    once_more 3 ∷
    (paced 8 (low (0x02 ∷ 0x00 ∷ 0x00 ∷ 0x10 ∷ 0x5A ∷ 0x5B ∷ []) 0) ⇒ begun 0 0x100 (lasts 5) 6) ∷
    once_more 5 ∷
    (paced 8 (low (0x81 ∷ 0x00 ∷ 0x00 ∷ 0x10 ∷ []) 0) ⇒ begun 0 0x100 (lasts 7) 4) ∷
    once_more 7 ∷
    (paced 8 (low (0x20 ∷ 0x00 ∷ 0x00 ∷ 0x10 ∷ []) 0) ⇒ begun 0 0x1000 (lasts 11) 4) ∷
    once_more 11 ∷
    (paced 8 (low (0x52 ∷ 0x00 ∷ 0x00 ∷ 0x10 ∷ []) 0) ⇒ begun 0 0x8000 (lasts 13) 4) ∷
    once_more 13 ∷
    (paced 8 (low (0xD8 ∷ 0x00 ∷ 0x00 ∷ 0x10 ∷ []) 0) ⇒ begun 0 0x8000 (lasts 13) 4) ∷
    once_more 13 ∷
    (paced 8 (low (0x60 ∷ []) 0) ⇒ begun 0 0x10000 (lasts 17) 1) ∷
    once_more 17 ∷
    (paced 8 (low (0xC7 ∷ []) 0) ⇒ begun 0 0x10000 (lasts 17) 1) ∷
    once_more 17 ∷
    (paced 8 (low (0x62 ∷ []) 0) ⇒ begun 0 0x10000 (lasts 17) 1) ∷
    once_more 17 ∷
    (paced 8 (low (0x31 ∷ 0x10 ∷ []) 0) ⇒ quiet "control" (lasts 0) 2) ∷
    once_more 0 ∷
    (paced 8 (low (0x01 ∷ 0x00 ∷ []) 0) ⇒ quiet "begun" (lasts 23) 2) ∷
    once_more 23 ∷
    (paced 8 (low (0x9B ∷ 0x00 ∷ 0x00 ∷ 0x02 ∷ 0x5A ∷ []) 0)
    ⇒ quiet "begun" (held false false false true true Awake 19) 5) ∷
    [])
    (piece 0 0x10000 0xFF ∷ []))))

-- OTP programs: 0Fh, 33h and 55h from 3Eh on, and the array stays
abbrev otp_anded : Row
otp_anded =
    registered 128 made (bytes 62 (0x0C ∷ 0x30 ∷ []) ++ bytes 0 (0x14 ∷ []))
    (row (held true true true true false Awake 0) 0x3C
    ((low (0x9B ∷ 0x12 ∷ 0x34 ∷ 0xFE ∷ 0x0F ∷ 0x33 ∷ 0x55 ∷ []) 0
    ⇒ quiet "begun" (held true true false true true Awake 400) 7) ∷
    (low (0x77 ∷ 0x00 ∷ 0x00 ∷ 0x3E ∷ 0x00 ∷ 0x00 ∷ 0x00 ∷ 0x00 ∷ 0x00 ∷ 0x00 ∷ []) 400 ⇒
    came "read" 6 4 (held true true false true true Awake 0) (header ++ (0xFF ∷ 0xFF ∷ 0x0C ∷ 0x30 ∷ 0x80 ∷ 0x81 ∷ [])))
    ∷
    (whole (0x77 ∷ 0xFF ∷ 0xFF ∷ 0xFE ∷ 0x00 ∷ 0x00 ∷ 0x00 ∷ 0x00 ∷ 0x00 ∷ 0x00 ∷ []) 0 ⇒
    came "read" 6 4 (held true true false true true Awake 0) (header ++ (0xFF ∷ 0xFF ∷ 0xBE ∷ 0xBF ∷ 0x14 ∷ 0x3C ∷ [])))
    ∷
    [])
    [])

-- one data byte takes as long; of the address the low six bits count
abbrev otp_one : Row
otp_one =
    registered 128 made (piece 0 1 0x24 ∷ [])
    (row enabled 0xFF
    ((whole (0x9B ∷ 0xFF ∷ 0xFF ∷ 0xC0 ∷ 0x66 ∷ []) 0 ⇒ quiet "begun" (held false false false false true Awake 400) 5) ∷
    (clocked 60 (0x77 ∷ 0x00 ∷ 0x00 ∷ 0x40 ∷ 0x00 ∷ 0x00 ∷ 0x00 ∷ 0x00 ∷ []) 400 ⇒
    came "read" 6 2 (held false false false false true Awake 0) (header ++ (0xFF ∷ 0xFF ∷ 0x80 ∷ 0x8F ∷ []))) ∷
    [])
    [])

-- of 70 data bytes from offset 10 on the first six do not count: the seventh aims at 16
abbrev otp_seventy : Row
otp_seventy =
    registered 128 (rising 64 128 0x80 ∷ []) (rising 16 64 0x01 ∷ rising 0 16 0x31 ∷ [])
    (row enabled 0xFF
    ((low (0x9B ∷ 0x00 ∷ 0x00 ∷ 0x0A ∷ (replicate 6 0x00 ++ counting 0x01 64)) 0
    ⇒ quiet "begun" (held false false false false true Awake 400) 74) ∷ [])
    [])

-- with the mark 1 it is aborted, and so is one that is short; then the mark stays as it was
abbrev otp_used : Row
otp_used =
    registered 128 made []
    (row (held false true true true true Awake 0) 0xFF
    ((whole (0x9B ∷ 0x00 ∷ 0x00 ∷ 0x00 ∷ 0x00 ∷ []) 0 ⇒
    aborted "already programmed" (held false true false true true Awake 0) 5) ∷
    [])
    [])

unfoldable pub data_rows : List Row
data_rows =
    without_wel (held true false false true false Awake 0) ∷
    without_wel (held false true false false true Awake 0) ∷
    while_busy (held true false true false true Awake 5) ∷
    while_busy (held false true false true false Awake 5) ∷
    while_busy (held false false true true false Awake 1) ∷
    cut_by_four ∷
    cut_by_six ∷
    cut_by_one ∷
    guarded_array false true array_frames ∷
    guarded_array true true array_frames ∷
    guarded_array true false above ∷
    guarded_array false false above ∷
    programs_four ∷
    programs_four_small ∷
    programs_ff ∷
    programs_two ∷
    programs_255 ∷
    programs_256 ∷
    programs_257 ∷
    programs_300 ∷
    other_times ∷
    otp_anded ∷
    otp_one ∷
    otp_seventy ∷
    otp_used ∷
    erasing 131072 (0x81 ∷ 0x01 ∷ 0xFF ∷ 0x80 ∷ []) 7000 0x1FF00 0x20000 ∷
    erasing 131072 (0x20 ∷ 0x01 ∷ 0x0F ∷ 0xFF ∷ 0xAA ∷ []) 50000 0x10000 0x11000 ∷
    erasing 131072 (0x52 ∷ 0x01 ∷ 0x80 ∷ 0x00 ∷ []) 400000 0x18000 0x20000 ∷
    erasing 131072 (0xD8 ∷ 0x02 ∷ 0x7F ∷ 0xFF ∷ []) 400000 0x0 0x8000 ∷
    erasing 131072 (0x62 ∷ 0x00 ∷ 0x00 ∷ 0x00 ∷ []) 1600000 0x0 0x20000 ∷
    erasing 131072 (0x60 ∷ 0x00 ∷ 0x00 ∷ 0x00 ∷ []) 1600000 0x0 0x20000 ∷
    erasing 65536 (0x81 ∷ 0x01 ∷ 0xFF ∷ 0x80 ∷ []) 7000 0xFF00 0x10000 ∷
    erasing 65536 (0x20 ∷ 0xFF ∷ 0xFF ∷ 0xFF ∷ []) 50000 0xF000 0x10000 ∷
    erasing 65536 (0x52 ∷ 0x01 ∷ 0x00 ∷ 0x00 ∷ []) 400000 0x0 0x8000 ∷
    erasing 65536 (0xD8 ∷ 0x01 ∷ 0x80 ∷ 0x00 ∷ 0x00 ∷ []) 400000 0x8000 0x10000 ∷
    erasing 65536 (0x60 ∷ []) 1600000 0x0 0x10000 ∷
    erasing 65536 (0xC7 ∷ 0x01 ∷ 0x80 ∷ 0x00 ∷ []) 1600000 0x0 0x10000 ∷
    []
