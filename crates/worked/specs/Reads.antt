-- Rows of what is read, worked by hand: data that differs at each place, both sizes of the array, reads cut short and
-- long ones, and long times. Assumes nothing.
use Rattle.std.specs.Prelude.{ℕ, true, false, List, [], ◌∷◌, ◌++◌, replicate}
use Rattle.device.specs.declared.Device.{Device}
use Rattle.device.specs.declared.Mode.TheVariants.{Awake}
use Rattle.worked.specs.Worked.{Exchange, Piece, Row}
use Rattle.worked.specs.Words.{held, idle, busy, worn, counting, clocked, whole, low, pulled, paced, header, came}
use Rattle.worked.specs.Words.{wholes, quiet, ◌⇒◌, unmoved, piece, rising, row, sized, holding}

-- Reads, of an array that holds 11h but here: at its beginning, around 010000h, at its end, and at two places that one
-- address bit tells apart
abbrev landmarks : List Piece
landmarks =
    rising 0x0 0x10 0x40 ∷
    rising 0xFFF0 0x10000 0x80 ∷
    rising 0x10000 0x10010 0xA0 ∷
    rising 0x1FFF0 0x20000 0xC0 ∷
    piece 0x2345 0x2346 0x6C ∷
    piece 0x12345 0x12346 0x5B ∷
    []

abbrev reads_large : Row
reads_large =
    holding landmarks
    (row (worn 0) 0x11
    ((low (0x03 ∷ 0x00 ∷ 0xFF ∷ 0xFE ∷ 0x00 ∷ 0x00 ∷ 0x00 ∷ 0x00 ∷ []) 0
    ⇒ came "read" 4 4 (worn 0) (header ++ (0x8E ∷ 0x8F ∷ 0xA0 ∷ 0xA1 ∷ []))) ∷
    (whole (0x03 ∷ 0x01 ∷ 0xFF ∷ 0xFE ∷ 0x00 ∷ 0x00 ∷ 0x00 ∷ 0x00 ∷ []) 0
    ⇒ came "read" 4 4 (worn 0) (header ++ (0xCE ∷ 0xCF ∷ 0x40 ∷ 0x41 ∷ []))) ∷
    (low (0x03 ∷ 0x01 ∷ 0x23 ∷ 0x45 ∷ 0x00 ∷ []) 0 ⇒ came "read" 4 1 (worn 0) (header ++ (0x5B ∷ []))) ∷
    (whole (0x03 ∷ 0x00 ∷ 0x23 ∷ 0x45 ∷ 0x00 ∷ []) 0 ⇒ came "read" 4 1 (worn 0) (header ++ (0x6C ∷ []))) ∷
    (low (0x03 ∷ 0x02 ∷ 0x23 ∷ 0x45 ∷ 0x00 ∷ []) 0 ⇒ came "read" 4 1 (worn 0) (header ++ (0x6C ∷ []))) ∷
    (whole (0x03 ∷ 0xFF ∷ 0x23 ∷ 0x45 ∷ 0x00 ∷ []) 0 ⇒ came "read" 4 1 (worn 0) (header ++ (0x5B ∷ []))) ∷
    (low (0x0B ∷ 0x01 ∷ 0xFF ∷ 0xFE ∷ 0x12 ∷ 0x00 ∷ 0x00 ∷ 0x00 ∷ []) 0
    ⇒ came "read" 5 3 (worn 0) (header ++ (0xFF ∷ 0xCE ∷ 0xCF ∷ 0x40 ∷ []))) ∷
    (whole (0x03 ∷ 0x00 ∷ 0x00 ∷ 0x00 ∷ replicate 20 0x00) 0
    ⇒ came "read" 4 20 (worn 0) (header ++ counting 0x40 16 ++ replicate 4 0x11)) ∷
    (clocked 44 (0x03 ∷ 0x00 ∷ 0x00 ∷ 0x00 ∷ 0x00 ∷ 0x00 ∷ []) 0
    ⇒ came "read" 4 2 (worn 0) (header ++ (0x40 ∷ 0x4F ∷ []))) ∷
    [])
    [])

abbrev reads_small : Row
reads_small =
    sized 65536
    (holding (rising 0x0 0x10 0x40 ∷ rising 0xFFF0 0x10000 0x80 ∷ piece 0x2345 0x2346 0x6C ∷ [])
    (row idle 0x11
    ((whole (0x03 ∷ 0x00 ∷ 0xFF ∷ 0xFE ∷ 0x00 ∷ 0x00 ∷ 0x00 ∷ 0x00 ∷ []) 0
    ⇒ came "read" 4 4 idle (header ++ (0x8E ∷ 0x8F ∷ 0x40 ∷ 0x41 ∷ []))) ∷
    (low (0x03 ∷ 0x01 ∷ 0x00 ∷ 0x00 ∷ 0x00 ∷ 0x00 ∷ []) 0 ⇒ came "read" 4 2 idle (header ++ (0x40 ∷ 0x41 ∷ []))) ∷
    (whole (0x03 ∷ 0x01 ∷ 0x23 ∷ 0x45 ∷ 0x00 ∷ []) 0 ⇒ came "read" 4 1 idle (header ++ (0x6C ∷ []))) ∷
    (low (0x0B ∷ 0xFF ∷ 0xFF ∷ 0xFF ∷ 0x00 ∷ 0x00 ∷ 0x00 ∷ []) 0
    ⇒ came "read" 5 2 idle (header ++ (0xFF ∷ 0x8F ∷ 0x40 ∷ []))) ∷
    [])
    []))

-- a read drives more than a page, by 03 or 0B, and more than the register
abbrev reads_a_page : Row
reads_a_page =
    holding (rising 0x0 0x200 0x20 ∷ [])
    (row idle 0x11
    ((low (0x03 ∷ 0x00 ∷ 0x00 ∷ 0x80 ∷ replicate 261 0x00) 0 ⇒ came "read" 4 261 idle (header ++ counting 0xA0 261)) ∷
    (low (0x0B ∷ 0x00 ∷ 0x00 ∷ 0x80 ∷ 0x00 ∷ replicate 257 0x00) 0 ⇒
    came "read" 5 257 idle (header ++ 0xFF ∷ counting 0xA0 257)) ∷
    (whole (0x77 ∷ 0x00 ∷ 0x00 ∷ 0x40 ∷ 0x00 ∷ 0x00 ∷ replicate 129 0x00) 0 ⇒
    came "read" 6 129 idle (header ++ (0xFF ∷ 0xFF ∷ []) ++ counting 0x80 64 ++ replicate 64 0xFF ++ (0x80 ∷ []))) ∷
    [])
    [])

-- a read that is cut short drives the positions that it has, a partial one too, and no flag moves
abbrev short_reads : Device → Row
short_reads d =
    row d 0x11
    (unmoved (quiet "read") d
    (wholes
    ((0x03 ∷ []) ∷
    (0x03 ∷ 0x00 ∷ []) ∷
    (0x0B ∷ []) ∷
    (0x0B ∷ 0x00 ∷ 0x00 ∷ 0x00 ∷ 0x00 ∷ []) ∷
    (0x77 ∷ []) ∷
    (0x77 ∷ 0x00 ∷ 0x00 ∷ 0x00 ∷ []) ∷
    (0x77 ∷ 0x00 ∷ 0x00 ∷ 0x00 ∷ 0x00 ∷ 0x00 ∷ []) ∷
    (0x05 ∷ []) ∷
    (0x9F ∷ []) ∷
    (0x15 ∷ []) ∷
    [])) ++
    ((low (0x9F ∷ 0x00 ∷ []) 0 ⇒ came "read" 1 1 d (0xFF ∷ 0x1F ∷ [])) ∷
    (whole (0x9F ∷ 0x00 ∷ 0x00 ∷ []) 0 ⇒ came "read" 1 2 d (0xFF ∷ 0x1F ∷ 0x42 ∷ [])) ∷
    (low (0x9F ∷ 0x00 ∷ 0x00 ∷ 0x00 ∷ []) 0 ⇒ came "read" 1 3 d (0xFF ∷ 0x1F ∷ 0x42 ∷ 0x00 ∷ [])) ∷
    (low (0x9F ∷ 0x00 ∷ 0x00 ∷ 0x00 ∷ 0x00 ∷ []) 0 ⇒ came "read" 1 4 d (0xFF ∷ 0x1F ∷ 0x42 ∷ 0x00 ∷ 0x00 ∷ [])) ∷
    (clocked 20 (0x9F ∷ 0x00 ∷ 0x00 ∷ []) 0 ⇒ came "read" 1 2 d (0xFF ∷ 0x1F ∷ 0x4F ∷ [])) ∷
    (clocked 9 (0x9F ∷ 0x00 ∷ []) 0 ⇒ came "read" 1 1 d (0xFF ∷ 0x7F ∷ [])) ∷
    (whole (0x15 ∷ 0x00 ∷ []) 0 ⇒ came "read" 1 1 d (0xFF ∷ 0x1F ∷ [])) ∷
    (low (0x15 ∷ 0x00 ∷ 0x00 ∷ []) 0 ⇒ came "read" 1 2 d (0xFF ∷ 0x1F ∷ 0x65 ∷ [])) ∷
    (clocked 10 (0x15 ∷ 0x00 ∷ []) 0 ⇒ came "read" 1 1 d (0xFF ∷ 0x3F ∷ [])) ∷
    (clocked 9 (0x0B ∷ 0x00 ∷ []) 0 ⇒ quiet "read" d 2) ∷
    (clocked 44 (0x0B ∷ 0x00 ∷ 0x00 ∷ 0x00 ∷ 0x00 ∷ 0x00 ∷ []) 0 ⇒ came "read" 5 1 d (header ++ (0xFF ∷ 0x1F ∷ []))) ∷
    (clocked 52 (0x77 ∷ 0x00 ∷ 0x00 ∷ 0x40 ∷ 0x00 ∷ 0x00 ∷ 0x00 ∷ []) 0
    ⇒ came "read" 6 1 d (header ++ (0xFF ∷ 0xFF ∷ 0x8F ∷ []))) ∷
    []))
    []

-- a status byte of 00h of which one bit is clocked, then two, up to seven: the others read 1
abbrev clip : ℕ → ℕ → Exchange
clip bits shown = pulled (clocked bits (0x05 ∷ 0x00 ∷ []) 0) ⇒ came "read" 1 1 idle (0xFF ∷ shown ∷ [])

abbrev clipped : Row
clipped =
    row idle 0xFF
    (clip 9 0x7F ∷ clip 10 0x3F ∷ clip 11 0x1F ∷ clip 12 0x0F ∷ clip 13 0x07 ∷ clip 14 0x03 ∷ clip 15 0x01 ∷
    clip 16 0x00 ∷ []) []

-- 20 status bytes at 3 ticks a position, 50 ticks left: the 16th begins after 48, the 17th after 51
abbrev alternating : List ℕ
alternating = 0x11 ∷ 0x01 ∷ 0x11 ∷ 0x01 ∷ []

-- 64 of them
abbrev sixteen : List ℕ
sixteen = alternating ++ alternating ++ alternating ++ alternating

abbrev pairs : List ℕ
pairs = sixteen ++ sixteen ++ sixteen ++ sixteen

abbrev long_poll : Row
long_poll =
    row (busy 50) 0xFF
    ((paced 3 (whole (0x05 ∷ replicate 20 0x00) 0) ⇒
    came "read" 1 20 idle (0xFF ∷ (sixteen ++ (0x10 ∷ 0x00 ∷ 0x10 ∷ 0x00 ∷ [])))) ∷ [])
    []

-- ticks of more than 32 bits, and positions that take more than 16 bits of ticks together: 66 at 1,000 each leave one
-- of 66,001
abbrev long_times : Row
long_times =
    row (busy 66001) 0xFF
    ((paced 1000 (whole (0x05 ∷ replicate 65 0x00) 0) ⇒
    came "read" 1 65 (busy 1) (0xFF ∷ (pairs ++ (0x11 ∷ [])))) ∷
    (whole (0x05 ∷ 0x00 ∷ []) 4294967296 ⇒ came "read" 1 1 idle (0xFF ∷ 0x10 ∷ [])) ∷
    [])
    []

abbrev longer_times : Row
longer_times =
    row (busy 60000000) 0xFF ((low (0x05 ∷ 0x00 ∷ []) 9223372036854775808 ⇒ came "read" 1 1 idle (0xFF ∷ 0x00 ∷ [])) ∷
    []) []

unfoldable pub read_rows : List Row
read_rows =
    reads_large ∷
    reads_small ∷
    reads_a_page ∷
    short_reads (held true false true false true Awake 0) ∷
    short_reads (held false true false true false Awake 0) ∷
    clipped ∷
    long_poll ∷
    long_times ∷
    longer_times ∷
    []
