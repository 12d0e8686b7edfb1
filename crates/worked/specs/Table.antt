-- The frames that were worked by hand, P1 to P10, the built-in session, and the calls at a limit. Assumes nothing.
use Rattle.std.specs.Prelude.{ℕ, true, false, List, [], ◌∷◌, replicate}
use Rattle.device.specs.declared.Device.{Device}
use Rattle.device.specs.Device.{fresh}
use Rattle.worked.specs.Worked.{Exchange, Row}
use Rattle.worked.specs.Words.{stands, idle, enabled, busy, clocked, whole, low, came, quiet}
use Rattle.worked.specs.Words.{aborted, begun, refused, ◌⇒◌, piece, row, sized, lasting}

-- a fresh record with BPL and BP0 0
abbrev clear : Device
clear = fresh false false false

-- WEL 1
abbrev write_enable : Exchange
write_enable = whole (0x06 ∷ []) 0 ⇒ quiet "control" enabled 1

-- P1: after 06 a status read gives 12 00 12
abbrev p1 : Row
p1 =
    row clear 0xFF
    (write_enable ∷
    (whole (0x05 ∷ 0x00 ∷ 0x00 ∷ 0x00 ∷ []) 0 ⇒ came "read" 1 3 enabled (0xFF ∷ 0x12 ∷ 0x00 ∷ 0x12 ∷ [])) ∷
    [])
    []

-- P2: three bytes from 0000FEh on wrap in their page
abbrev p2 : Row
p2 =
    row clear 0xFF
    (write_enable ∷
    (whole (0x02 ∷ 0x00 ∷ 0x00 ∷ 0xFE ∷ 0x11 ∷ 0x22 ∷ 0x33 ∷ []) 0 ⇒ begun 0 0x100 (busy 2000) 7) ∷
    [])
    (piece 0xFE 0xFF 0x11 ∷ piece 0xFF 0x100 0x22 ∷ piece 0 1 0x33 ∷ [])

-- P3: 0Fh and later F3h at one address leave 03h
abbrev p3 : Row
p3 =
    row clear 0xFF
    (write_enable ∷
    (whole (0x02 ∷ 0x00 ∷ 0x12 ∷ 0x34 ∷ 0x0F ∷ []) 0 ⇒ begun 0x1200 0x1300 (busy 12) 5) ∷
    (whole (0x06 ∷ []) 12 ⇒ quiet "control" enabled 1) ∷
    (whole (0x02 ∷ 0x00 ∷ 0x12 ∷ 0x34 ∷ 0xF3 ∷ []) 0 ⇒ begun 0x1200 0x1300 (busy 12) 5) ∷
    [])
    (piece 0x1234 0x1235 0x03 ∷ [])

-- P4: a program of 39 bits is aborted and changes no byte; one of 40 bits begins
abbrev p4_short : Row
p4_short =
    row clear 0xFF
    (write_enable ∷ (clocked 39 (0x02 ∷ 0x00 ∷ 0x00 ∷ 0x00 ∷ 0x00 ∷ []) 0 ⇒ aborted "off boundary" idle 5) ∷ [])
    []

abbrev p4_whole : Row
p4_whole =
    row clear 0xFF
    (write_enable ∷ (clocked 40 (0x02 ∷ 0x00 ∷ 0x00 ∷ 0x00 ∷ 0x00 ∷ []) 0 ⇒ begun 0 0x100 (busy 12) 5) ∷ [])
    (piece 0 1 0x00 ∷ [])

-- P5: of 257 data bytes the last 256 count
abbrev p5 : Row
p5 =
    row clear 0xFF
    (write_enable ∷ (whole (0x02 ∷ 0x00 ∷ 0x00 ∷ 0x00 ∷ 0xAA ∷ replicate 256 0x55) 0 ⇒ begun 0 0x100 (busy 2000) 261) ∷
    [])
    (piece 0 256 0x55 ∷ [])

-- P6: an erase covers the 4 KiB, or the 32 KiB, around its address, and nothing else
abbrev p6_small : Row
p6_small =
    row clear 0x00
    (write_enable ∷ (whole (0x20 ∷ 0x00 ∷ 0x1F ∷ 0xFF ∷ []) 0 ⇒ begun 0x1000 0x2000 (busy 50000) 4) ∷ [])
    (piece 0x1000 0x2000 0xFF ∷ [])

abbrev p6_large : Row
p6_large =
    row clear 0x00
    (write_enable ∷ (whole (0xD8 ∷ 0x01 ∷ 0x7F ∷ 0xFF ∷ []) 0 ⇒ begun 0x10000 0x18000 (busy 400000) 4) ∷ [])
    (piece 0x10000 0x18000 0xFF ∷ [])

-- P7: 020000h names byte 0 and FFFFFFh the last byte, behind which a read goes on with byte 0
abbrev p7 : Row
p7 =
    row clear 0xFF
    (write_enable ∷
    (whole (0x02 ∷ 0x02 ∷ 0x00 ∷ 0x00 ∷ 0x5A ∷ []) 0 ⇒ begun 0 0x100 (busy 12) 5) ∷
    (whole (0x06 ∷ []) 12 ⇒ quiet "control" enabled 1) ∷
    (whole (0x02 ∷ 0xFF ∷ 0xFF ∷ 0xFF ∷ 0xA5 ∷ []) 0 ⇒ begun 0x1FF00 0x20000 (busy 12) 5) ∷
    (whole (0x03 ∷ 0xFF ∷ 0xFF ∷ 0xFF ∷ 0x00 ∷ 0x00 ∷ 0x00 ∷ []) 12 ⇒
    came "read" 4 3 idle (0xFF ∷ 0xFF ∷ 0xFF ∷ 0xFF ∷ 0xA5 ∷ 0x5A ∷ 0xFF ∷ [])) ∷
    [])
    (piece 0 1 0x5A ∷ piece 0x1FFFF 0x20000 0xA5 ∷ [])

-- P8: 01 84 sets BPL and BP0; with WP low the status is 85h while busy and 84h afterwards
abbrev p8 : Row
p8 =
    row clear 0xFF
    (write_enable ∷
    (whole (0x01 ∷ 0x84 ∷ []) 0 ⇒ quiet "begun" (stands true true false 20000) 2) ∷
    (low (0x05 ∷ 0x00 ∷ []) 0 ⇒ came "read" 1 1 (stands true true false 20000) (0xFF ∷ 0x85 ∷ [])) ∷
    (low (0x05 ∷ 0x00 ∷ []) 20000 ⇒ came "read" 1 1 (stands true true false 0) (0xFF ∷ 0x84 ∷ [])) ∷
    [])
    []

-- P9: of a status read of 11 bits the bits that were not clocked read 1
abbrev p9 : Row
p9 =
    row clear 0xFF
    (write_enable ∷ (clocked 11 (0x05 ∷ 0x00 ∷ []) 0 ⇒ came "read" 1 1 enabled (0xFF ∷ 0x1F ∷ [])) ∷ [])
    []

-- P10: the identification drives four positions
abbrev p10 : Row
p10 =
    row clear 0xFF
    ((whole (0x9F ∷ 0x00 ∷ 0x00 ∷ 0x00 ∷ 0x00 ∷ 0x00 ∷ []) 0
    ⇒ came "read" 1 4 idle (0xFF ∷ 0x1F ∷ 0x42 ∷ 0x00 ∷ 0x00 ∷ 0xFF ∷ [])) ∷ [])
    []

-- the built-in session, on the small array, each program taking 2,000 ticks
abbrev session : Row
session =
    lasting (2000 ∷ 2000 ∷ 7000 ∷ 50000 ∷ 400000 ∷ 1600000 ∷ 400 ∷ 20000 ∷ [])
    (sized 65536
    (row clear 0xFF
    ((whole (0x06 ∷ []) 0 ⇒ quiet "control" enabled 1) ∷
    (whole (0x02 ∷ 0x00 ∷ 0x00 ∷ 0xFE ∷ 0x11 ∷ 0x22 ∷ 0x33 ∷ []) 1 ⇒ begun 0 0x100 (busy 2000) 7) ∷
    (whole (0x05 ∷ 0x00 ∷ 0x00 ∷ []) 1 ⇒ came "read" 1 2 (busy 1999) (0xFF ∷ 0x11 ∷ 0x01 ∷ [])) ∷
    (whole (0x03 ∷ 0x00 ∷ 0x00 ∷ 0xFE ∷ 0x00 ∷ 0x00 ∷ 0x00 ∷ []) 2000 ⇒
    came "read" 4 3 idle (0xFF ∷ 0xFF ∷ 0xFF ∷ 0xFF ∷ 0x11 ∷ 0x22 ∷ 0xFF ∷ [])) ∷
    [])
    (piece 0xFE 0xFF 0x11 ∷ piece 0xFF 0x100 0x22 ∷ piece 0 1 0x33 ∷ [])))

-- the most bytes that are accepted, of which all but four are driven, and one more
abbrev most_bytes : Row
most_bytes =
    row clear 0x11
    ((whole (0x03 ∷ replicate 8191 0x00) 0 ⇒ came "read" 4 8188 idle (0xFF ∷ 0xFF ∷ 0xFF ∷ 0xFF ∷ replicate 8188 0x11))
    ∷
    (whole (replicate 8193 0x00) 0 ⇒ refused 3 idle 8193) ∷
    [])
    []

-- the longest duration that is accepted, and one more
abbrev long : ℕ → List ℕ
long last = 60000000 ∷ 60000000 ∷ 60000000 ∷ 60000000 ∷ 60000000 ∷ 60000000 ∷ 60000000 ∷ last ∷ []

abbrev longest : Row
longest =
    lasting (long 60000000)
    (row clear 0x00 (write_enable ∷ (whole (0x60 ∷ []) 0 ⇒ begun 0 131072 (busy 60000000) 1) ∷ [])
    (piece 0 131072 0xFF ∷ []))

abbrev longer : Row
longer = lasting (long 60000001) (row enabled 0x00 ((whole (0x60 ∷ []) 0 ⇒ refused 7 enabled 1) ∷ []) [])

unfoldable pub table : List Row
table =
    p1 ∷ p2 ∷ p3 ∷ p4_short ∷ p4_whole ∷ p5 ∷ p6_small ∷ p6_large ∷ p7 ∷ p8 ∷ p9 ∷ p10 ∷ session ∷ most_bytes ∷
    longest ∷ longer ∷ []
