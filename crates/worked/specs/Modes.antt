-- Rows of the modes and of what is not heard, worked by hand. Assumes nothing.
use Rattle.std.specs.Prelude.{ℕ, Bool, true, false, List, [], ◌∷◌, ◌++◌, length}
use Prim.Native.String.{String}
use Rattle.device.specs.declared.Device.{Device}
use Rattle.device.specs.declared.Mode.{Mode}
use Rattle.device.specs.declared.Mode.TheVariants.{Awake, Deep, UltraDeep}
use Rattle.worked.specs.Worked.{Sent, Exchange, Row}
use Rattle.worked.specs.Frames.{latched, reads, orders, unlisted}
use Rattle.worked.specs.Words.{held, idle, clocked, whole, low, pulled, wholes, quiet, nothing, ◌⇒◌}
use Rattle.worked.specs.Words.{unmoved, rousing, row}

-- B9 and AB change the mode alone, whatever the flags; in deep power-down AB alone is heard, on a boundary
abbrev sleeps : (bpl bp0 wel rste used : Bool) → Row
sleeps bpl bp0 wel rste used =
    row (held bpl bp0 wel rste used Awake 0) 0xFF
    ((low (0xB9 ∷ []) 0 ⇒ quiet "control" (held bpl bp0 wel rste used Deep 0) 1) ∷
    unmoved (nothing "asleep") (held bpl bp0 wel rste used Deep 0)
    (wholes
    (((0x05 ∷ 0x00 ∷ []) ∷ (0xF0 ∷ 0xD0 ∷ []) ∷ (0xAA ∷ []) ∷ (0xAC ∷ []) ∷ []) ++ latched ++ reads ++ orders)) ++
    ((clocked 7 (0xAB ∷ []) 0 ⇒ nothing "too few bits" (held bpl bp0 wel rste used Deep 0) 1) ∷
    (clocked 12 (0xAB ∷ 0x00 ∷ []) 0 ⇒ nothing "asleep" (held bpl bp0 wel rste used Deep 0) 2) ∷
    (clocked 14 (0xAB ∷ 0x00 ∷ []) 0 ⇒ nothing "asleep" (held bpl bp0 wel rste used Deep 0) 2) ∷
    (low (0xAB ∷ []) 0 ⇒ quiet "control" (held bpl bp0 wel rste used Awake 0) 1) ∷
    []))
    []

-- 79 changes the mode alone; any frame wakes, with no output, and WEL and RSTE become 0
abbrev dozes : (bpl bp0 wel rste used : Bool) → Sent → Row
dozes bpl bp0 wel rste used sent =
    row (held bpl bp0 wel rste used Awake 0) 0xFF
    ((low (0x79 ∷ []) 0 ⇒ quiet "control" (held bpl bp0 wel rste used UltraDeep 0) 1) ∷
    (sent ⇒ quiet "control" (held bpl bp0 false false used Awake 0) (length sent.bytes)) ∷
    [])
    []

-- and so does each of them, with nothing read and nothing begun
abbrev rouses : Row
rouses =
    row (held true false false false true Awake 0) 0x00
    (rousing (held true false false false true Awake 0) (held true false false false true UltraDeep 0)
    (latched ++ reads ++ orders ++ ((0xF0 ∷ 0xD0 ∷ []) ∷ (0x00 ∷ []) ∷ [])))
    []

-- with a byte more B9 and 79 are control too
abbrev with_more : ℕ → Mode → Row
with_more code mode =
    row idle 0xFF
    ((whole (code ∷ 0x00 ∷ []) 0 ⇒ quiet "control" (held false false false false false mode 0) 2) ∷ [])
    []

-- off a boundary, by one bit to seven: 06 is nothing, and so are 04, B9 and 79; with WEL 1 or 0 it stays; AB and F0 are
-- nothing too, for other causes
abbrev because : String → ℕ → ℕ → Device → Exchange
because cause code bits d = clocked bits (code ∷ 0x00 ∷ []) 0 ⇒ nothing cause d 2

abbrev off : ℕ → ℕ → Device → Exchange
off code bits d = because "off boundary" code bits d

abbrev off_boundary : Row
off_boundary =
    row idle 0xFF
    (off 0x06 9 idle ∷ off 0x06 10 idle ∷ off 0x06 11 idle ∷ off 0x06 12 idle ∷ off 0x06 13 idle ∷ off 0x06 14 idle ∷
    off 0x06 15 idle ∷ [])
    []

abbrev off_boundary_flags : Device → Row
off_boundary_flags d =
    row d 0xFF (off 0x04 12 d ∷ off 0x04 15 d ∷ off 0x06 12 d ∷ off 0xB9 12 d ∷ off 0xB9 10 d ∷ off 0x79 12 d ∷
    off 0x79 14 d ∷ because "already awake" 0xAB 12 d ∷ because "reset not enabled or not confirmed" 0xF0 12 d ∷ []) []

-- awake, AB is nothing and so is every opcode that is not listed: WEL stays, and the other flags
abbrev unheard : Device → Row
unheard d =
    row d 0xFF
    (unmoved (nothing "already awake") d (wholes ((0xAB ∷ []) ∷ (0xAB ∷ 0x00 ∷ []) ∷ [])) ++
    unmoved (nothing "unknown opcode") d
    (wholes ((0x3B ∷ 0x00 ∷ 0x00 ∷ 0x00 ∷ 0x00 ∷ 0x00 ∷ []) ∷ unlisted)))
    []

-- fewer than 8 bits are nothing, whatever their opcode would be
abbrev too_few : Row
too_few =
    row (held false true true true false Awake 3) 0xFF
    ((clocked 7 (0x05 ∷ []) 0 ⇒ nothing "too few bits" (held false true true true false Awake 3) 1) ∷
    (clocked 7 (0x04 ∷ []) 3 ⇒ nothing "too few bits" (held false true true true false Awake 0) 1) ∷
    (clocked 7 (0x9F ∷ []) 0 ⇒ nothing "too few bits" (held false true true true false Awake 0) 1) ∷
    (clocked 1 (0x60 ∷ []) 0 ⇒ nothing "too few bits" (held false true true true false Awake 0) 1) ∷
    (clocked 8 (0x05 ∷ []) 0 ⇒ quiet "read" (held false true true true false Awake 0) 1) ∷
    [])
    []

unfoldable pub modes : List Row
modes =
    sleeps true false true false true ∷
    sleeps false true false true false ∷
    dozes true false true false true (whole (0x9F ∷ 0x00 ∷ []) 0) ∷
    dozes false true false true false (clocked 3 (0x00 ∷ []) 0) ∷
    dozes true true true true false (pulled (clocked 12 (0x79 ∷ 0x00 ∷ []) 5)) ∷
    dozes false false true true true (whole (0xAB ∷ []) 0) ∷
    dozes true true false true true (low (0x05 ∷ 0x00 ∷ []) 9) ∷
    rouses ∷
    with_more 0x79 UltraDeep ∷
    with_more 0xB9 Deep ∷
    off_boundary ∷
    off_boundary_flags (held true false true true false Awake 0) ∷
    off_boundary_flags (held false true true false true Awake 0) ∷
    off_boundary_flags (held false true false true true Awake 0) ∷
    unheard (held false true true false true Awake 0) ∷
    unheard (held true false false true false Awake 0) ∷
    too_few ∷
    []
