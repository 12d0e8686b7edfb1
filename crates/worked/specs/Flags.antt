-- Rows of the record's flags, worked by hand: flags unlike each other, WP low as often as high, so that one taken for
-- another is seen. Assumes nothing.
use Rattle.std.specs.Prelude.{ℕ, Bool, true, false, List, [], ◌∷◌, ◌++◌, length}
use Rattle.device.specs.declared.Device.{Device}
use Rattle.device.specs.declared.Mode.TheVariants.{Awake}
use Rattle.device.specs.Device.{fresh}
use Rattle.worked.specs.Worked.{Sent, Exchange, Row}
use Rattle.worked.specs.Words.{held, stands, idle, clocked, whole, low, pulled, paced, came, quiet, nothing}
use Rattle.worked.specs.Words.{wholes, aborted, begun, ◌⇒◌, unmoved, piece, row}

-- a fresh record takes BPL, BP0 and the OTP-used mark from the caller; the rest is clear
abbrev begins : Bool → Bool → Bool → ℕ → Row
begins bpl bp0 used shown =
    row (fresh bpl bp0 used) 0xFF
    ((low (0x05 ∷ 0x00 ∷ 0x00 ∷ []) 0 ⇒
    came "read" 1 2 (held bpl bp0 false false used Awake 0) (0xFF ∷ shown ∷ 0x00 ∷ [])) ∷ [])
    []

-- status byte 1: BPL 80h, WP high 10h, BP0 04h, WEL 02h, busy 01h; status byte 2: RSTE 10h, busy 01h
abbrev shows : Device → ℕ → ℕ → ℕ → ℕ → Row
shows d high two under also =
    row d 0xFF
    ((whole (0x05 ∷ 0x00 ∷ 0x00 ∷ 0x00 ∷ []) 0 ⇒ came "read" 1 3 d (0xFF ∷ high ∷ two ∷ high ∷ [])) ∷
    (low (0x05 ∷ 0x00 ∷ 0x00 ∷ 0x00 ∷ []) 0 ⇒ came "read" 1 3 d (0xFF ∷ under ∷ also ∷ under ∷ [])) ∷
    [])
    []

-- 06, a write of status byte 1 with WP low, and the status while busy and afterwards
abbrev writes : Bool → Bool → ℕ → Bool → Bool → ℕ → List Exchange
writes bpl bp0 byte becomes also shown =
    (low (0x06 ∷ []) 0 ⇒ quiet "control" (stands bpl bp0 true 0) 1) ∷
    (low (0x01 ∷ byte ∷ 0xFF ∷ 0x00 ∷ 0x00 ∷ []) 0 ⇒ quiet "begun" (stands becomes also false 20000) 5) ∷
    (low (0x05 ∷ 0x00 ∷ []) 19999 ⇒ came "read" 1 1 (stands becomes also false 1) (0xFF ∷ shown ∷ [])) ∷
    []

-- 04h: BP0 alone, 05h while busy and 04h afterwards; then a program is aborted
abbrev write_bp0 : Row
write_bp0 =
    row idle 0x00
    (writes false false 0x04 false true 0x05 ++
    ((low (0x05 ∷ 0x00 ∷ []) 1 ⇒ came "read" 1 1 (stands false true false 0) (0xFF ∷ 0x04 ∷ [])) ∷
    (low (0x06 ∷ []) 0 ⇒ quiet "control" (stands false true true 0) 1) ∷
    (low (0x02 ∷ 0x00 ∷ 0x00 ∷ 0x10 ∷ 0x5A ∷ []) 0 ⇒ aborted "protected" (stands false true false 0) 5) ∷
    []))
    []

-- 80h: BPL alone, 81h and 80h; then a program begins
abbrev write_bpl : Row
write_bpl =
    row idle 0xFF
    (writes false false 0x80 true false 0x81 ++
    ((low (0x05 ∷ 0x00 ∷ []) 1 ⇒ came "read" 1 1 (stands true false false 0) (0xFF ∷ 0x80 ∷ [])) ∷
    (low (0x06 ∷ []) 0 ⇒ quiet "control" (stands true false true 0) 1) ∷
    (low (0x02 ∷ 0x00 ∷ 0x00 ∷ 0x10 ∷ 0x5A ∷ []) 0 ⇒ begun 0 0x100 (stands true false false 12) 5) ∷
    []))
    (piece 0x10 0x11 0x5A ∷ [])

-- with BPL 0 and WP low BPL and BP0 go, whatever they were
abbrev writing : Bool → ℕ → Bool → Bool → ℕ → Row
writing bp0 byte becomes also shown = row (stands false bp0 false 0) 0xFF (writes false bp0 byte becomes also shown) []

-- with BPL 1 and WP high BPL goes and BP0 stays; the other flags stay too
abbrev guarded : Bool → Bool → Bool → Device
guarded bpl bp0 wel = held bpl bp0 wel true true Awake 0

abbrev locks : Bool → ℕ → Bool → Row
locks bp0 byte becomes =
    row (guarded true bp0 true) 0xFF
    ((whole (0x01 ∷ byte ∷ 0xFF ∷ []) 0 ⇒ quiet "begun" (held becomes bp0 false true true Awake 20000) 3) ∷ [])
    []

-- with BPL 1 and WP low it is aborted
abbrev locked_low : Row
locked_low =
    row (guarded true false true) 0xFF ((low (0x01 ∷ 0x04 ∷ []) 0 ⇒ aborted "locked" (guarded true false false) 2) ∷ [])
    []

-- 31: bit 4 alone goes to RSTE, also with BPL 1 and WP low; control, and no busy time
abbrev enabling : Bool → ℕ → Bool → Row
enabling rste byte becomes =
    row (held true false true rste true Awake 0) 0xFF
    ((low (0x31 ∷ byte ∷ 0x55 ∷ []) 0 ⇒ quiet "control" (held true false false becomes true Awake 0) 3) ∷ [])
    []

-- the other flags unlike these, and BP0 1
abbrev enabling_unlike : Row
enabling_unlike =
    row (stands false true true 0) 0xFF
    ((whole (0x31 ∷ 0x10 ∷ []) 0 ⇒ quiet "control" (held false true false true false Awake 0) 2) ∷ []) []

-- a reset of an idle part, and of a busy one: busy ticks and WEL become 0, all else stays
abbrev resetting : Sent → Bool → Bool → Bool → ℕ → Row
resetting sent bpl bp0 used ticks =
    row (held bpl bp0 true true used Awake ticks) 0xFF
    ((sent ⇒ quiet "control" (held bpl bp0 false true used Awake 0) (length sent.bytes)) ∷ [])
    []

-- none: no second byte, 00h, F0h or D8h for D0h; off a boundary
abbrev no_resets : Device → Row
no_resets d =
    row d 0xFF
    (unmoved (nothing "reset not enabled or not confirmed") d
    (wholes ((0xF0 ∷ []) ∷ (0xF0 ∷ 0x00 ∷ 0xD0 ∷ []) ∷ (0xF0 ∷ 0xF0 ∷ []) ∷ (0xF0 ∷ 0xD8 ∷ []) ∷ [])) ++
    ((clocked 20 (0xF0 ∷ 0xD0 ∷ 0x00 ∷ []) 0 ⇒ nothing "off boundary" d 3) ∷
    (pulled (clocked 15 (0xF0 ∷ 0xD0 ∷ []) 0) ⇒ nothing "reset not enabled or not confirmed" d 2) ∷
    []))
    []

-- nor with RSTE 0
abbrev no_reset_idle : Row
no_reset_idle =
    row (held true true true false true Awake 0) 0xFF
    ((low (0xF0 ∷ 0xD0 ∷ []) 0 ⇒
    nothing "reset not enabled or not confirmed" (held true true true false true Awake 0) 2) ∷ []) []

-- 06 and 04 change WEL alone, whatever it was
abbrev latching : Bool → Bool → Bool → Bool → Row
latching bpl bp0 rste used =
    row (held bpl bp0 false rste used Awake 0) 0xFF
    ((low (0x06 ∷ []) 0 ⇒ quiet "control" (held bpl bp0 true rste used Awake 0) 1) ∷
    (whole (0x06 ∷ []) 0 ⇒ quiet "control" (held bpl bp0 true rste used Awake 0) 1) ∷
    (low (0x04 ∷ 0x00 ∷ []) 0 ⇒ quiet "control" (held bpl bp0 false rste used Awake 0) 2) ∷
    (whole (0x04 ∷ []) 0 ⇒ quiet "control" (held bpl bp0 false rste used Awake 0) 1) ∷
    [])
    []

unfoldable pub flags : List Row
flags =
    begins true false false 0x80 ∷
    begins false true false 0x04 ∷
    begins false false true 0x00 ∷
    shows (held true false true false true Awake 0) 0x92 0x00 0x82 0x00 ∷
    shows (held false true false true false Awake 0) 0x14 0x10 0x04 0x10 ∷
    shows (held true false false true false Awake 5) 0x91 0x11 0x81 0x11 ∷
    shows (held false true true false true Awake 7) 0x17 0x01 0x07 0x01 ∷
    write_bp0 ∷
    write_bpl ∷
    -- bits 7 and 2 clear and all others set; bit 7, bit 2, and all bits
    writing true 0x7B false false 0x01 ∷
    writing true 0x80 true false 0x81 ∷
    writing true 0x04 false true 0x05 ∷
    writing false 0xFF true true 0x85 ∷
    locks false 0x04 false ∷
    locks false 0x84 true ∷
    locks true 0x80 true ∷
    locks true 0x00 false ∷
    locked_low ∷
    enabling false 0x10 true ∷
    enabling true 0x10 true ∷
    enabling true 0x00 false ∷
    enabling true 0xEF false ∷
    enabling false 0x7B true ∷
    enabling_unlike ∷
    resetting (low (0xF0 ∷ 0xD0 ∷ []) 0) true true true 100 ∷
    resetting (low (0xF0 ∷ 0xD0 ∷ 0x00 ∷ []) 0) true false false 0 ∷
    -- busy ends inside the frame
    resetting (paced 8 (whole (0xF0 ∷ 0xD0 ∷ []) 0)) false true true 10 ∷
    no_resets (held true false true true false Awake 9) ∷
    no_resets (held false true false true true Awake 9) ∷
    no_resets (held false true true true true Awake 0) ∷
    no_reset_idle ∷
    latching true false true false ∷
    latching false true false true ∷
    []
