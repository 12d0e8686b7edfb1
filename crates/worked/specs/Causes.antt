-- Why nothing came of a frame, worked by hand: each cause alone; each with later ones of the list beside it, so that
-- the first is told, and the next one once that is put right; and what has no cause. WEL stays after nothing and drops
-- after aborted. Assumes nothing.
use Rattle.std.specs.Prelude.{ℕ, Bool, true, false, List, [], ◌∷◌, ◌++◌, map, length}
use Prim.Native.String.{String}
use Rattle.device.specs.declared.Device.{Device}
use Rattle.device.specs.declared.Mode.{Mode}
use Rattle.device.specs.declared.Mode.TheVariants.{Awake, Deep, UltraDeep}
use Rattle.worked.specs.Worked.{Sent, Came, Exchange, Row}
use Rattle.worked.specs.Words.{held, stands, idle, enabled, clocked, whole, low, pulled, paced, given, came}
use Rattle.worked.specs.Words.{quiet, nothing, aborted, begun, spared, refused, ◌⇒◌, unmoved, piece, row}
use Rattle.worked.specs.Words.{registered}

abbrev unconfirmed : String
unconfirmed = "reset not enabled or not confirmed"

-- Each alone: all else is as the command wants it
abbrev alone : Device → Sent → Came → Row
alone d sent came = row d 0x00 ((sent ⇒ came) ∷ []) []

-- RSTE 1 and no other flag; the OTP-used mark and WEL
abbrev resettable : Device
resettable = held false false false true false Awake 0

abbrev used : Bool → Device
used wel = held false false wel false true Awake 0

-- Several at once. BPL, BP0 and the OTP-used mark are 1, RSTE is 0 and WP low: whatever bars a command does.
abbrev barred : Bool → Mode → ℕ → Device
barred wel mode busy = held true true wel false true mode busy

-- a frame of so many bits with WP low
abbrev cut : ℕ → List ℕ → Sent
cut bits bytes = pulled (clocked bits bytes 0)

-- 06 and 04; B9 when the busy ticks have passed, and AB
abbrev enable : Exchange
enable = low (0x06 ∷ []) 0 ⇒ quiet "control" (barred true Awake 0) 1

abbrev disable : Exchange
disable = low (0x04 ∷ []) 0 ⇒ quiet "control" (barred false Awake 0) 1

abbrev sleep : Bool → Exchange
sleep wel = low (0xB9 ∷ []) 9 ⇒ quiet "control" (barred wel Deep 0) 1

abbrev wake : Bool → Exchange
wake wel = low (0xAB ∷ []) 0 ⇒ quiet "control" (barred wel Awake 0) 1

-- 7 bits of an opcode are too few, whatever else holds; other frames of it come to nothing for a later cause
abbrev few : Device → ℕ → Exchange
few d code = cut 7 (code ∷ []) ⇒ nothing "too few bits" d 1

abbrev hushed : String → Device → ℕ → List Sent → List Exchange
hushed cause d code frames = few d code ∷ unmoved (nothing cause) d frames

-- they do on a busy part and on one asleep, which then wakes
abbrev unheard : Bool → ℕ → List Sent → List Exchange
unheard wel code frames =
    hushed "busy" (barred wel Awake 9) code frames ++ sleep wel ∷
    hushed "asleep" (barred wel Deep 0) code frames ++ wake wel ∷
    []

-- some frames with the cause that is each one's own
abbrev sents : List (Sent × String) → List Sent
sents frames = map (λ (f : Sent × String). f.0) frames

-- with WEL 1 each is aborted for that
unfoldable pub each_aborted : List (Sent × String) → List Exchange
each_aborted [] = []
each_aborted (f ∷ fs) =
    (f.0 ⇒ aborted f.1 (barred false Awake 0) (length f.0.bytes)) ∷ enable ∷ each_aborted fs

-- A command that needs WEL: its frames while busy and asleep, with WEL as said, then with WEL 0, then with WEL 1; and
-- in the end, it may be, one that nothing bars.
abbrev told : ℕ → List (Sent × String) → List Exchange → Bool → Row
told code frames obeyed wel =
    row (barred wel Awake 9) 0x00
    (unheard wel code (sents frames) ++ disable ∷
    hushed "latch clear" (barred false Awake 0) code (sents frames) ++ enable ∷
    few (barred true Awake 0) code ∷
    each_aborted frames ++ obeyed)
    []

-- 02: short and off a boundary, short, off a boundary, and neither
abbrev program : Bool → Row
program =
    told 0x02
    ((cut 12 (0x02 ∷ 0x00 ∷ []), "off boundary") ∷
    (cut 32 (0x02 ∷ 0x00 ∷ 0x00 ∷ 0x10 ∷ []), "incomplete") ∷
    (cut 37 (0x02 ∷ 0x00 ∷ 0x00 ∷ 0x10 ∷ 0x5A ∷ []), "off boundary") ∷
    (cut 40 (0x02 ∷ 0x00 ∷ 0x00 ∷ 0x10 ∷ 0x5A ∷ []), "protected") ∷
    [])
    []

-- 81, 20, 52 and D8; 60, C7 and 62, which are never incomplete
abbrev erase : ℕ → Bool → Row
erase code =
    told code
    ((cut 12 (code ∷ 0x00 ∷ []), "off boundary") ∷
    (cut 24 (code ∷ 0x00 ∷ 0x00 ∷ []), "incomplete") ∷
    (cut 32 (code ∷ 0x00 ∷ 0x00 ∷ 0x10 ∷ []), "protected") ∷
    [])
    []

abbrev chip_erase : ℕ → Bool → Row
chip_erase code = told code ((cut 12 (code ∷ 0x00 ∷ []), "off boundary") ∷ (cut 8 (code ∷ []), "protected") ∷ []) []

-- 9B, which BP0 does not bar
abbrev otp : Bool → Row
otp =
    told 0x9B
    ((cut 12 (0x9B ∷ 0x00 ∷ []), "off boundary") ∷
    (cut 32 (0x9B ∷ 0x00 ∷ 0x00 ∷ 0x02 ∷ []), "incomplete") ∷
    (cut 40 (0x9B ∷ 0x00 ∷ 0x00 ∷ 0x02 ∷ 0x5A ∷ []), "already programmed") ∷
    [])
    []

-- 01 is locked and not protected: with WP high it begins; 31 is neither
abbrev status : Bool → Row
status =
    told 0x01
    ((cut 12 (0x01 ∷ 0x80 ∷ []), "off boundary") ∷
    (cut 8 (0x01 ∷ []), "incomplete") ∷
    (cut 16 (0x01 ∷ 0x80 ∷ []), "locked") ∷
    [])
    ((whole (0x01 ∷ 0x80 ∷ []) 0 ⇒ quiet "begun" (barred false Awake 20000) 2) ∷ [])

abbrev status_two_row : Bool → Row
status_two_row =
    told 0x31 ((cut 12 (0x31 ∷ 0x10 ∷ []), "off boundary") ∷ (cut 8 (0x31 ∷ []), "incomplete") ∷ [])
    ((low (0x31 ∷ 0x10 ∷ []) 0 ⇒ quiet "control" (held true true false true true Awake 0) 2) ∷ [])

-- 06, 04, B9 and 79 off a boundary, with WEL 1; on one only busy and asleep keep them from being carried out
abbrev order : ℕ → Row
order code =
    row (barred true Awake 9) 0xFF
    (unheard true code (cut 8 (code ∷ []) ∷ cut 12 (code ∷ 0x00 ∷ []) ∷ []) ++
    hushed "off boundary" (barred true Awake 0) code (cut 12 (code ∷ 0x00 ∷ []) ∷ []))
    []

-- Resets that D0 does not confirm, in a second byte clocked whole, be they on a boundary or off; one that it does, and
-- one of 17 bits
abbrev unfit : List Sent
unfit =
    cut 8 (0xF0 ∷ []) ∷
    cut 9 (0xF0 ∷ 0xD0 ∷ []) ∷
    cut 12 (0xF0 ∷ 0xD0 ∷ []) ∷
    cut 15 (0xF0 ∷ 0xD0 ∷ []) ∷
    cut 16 (0xF0 ∷ 0xD1 ∷ []) ∷
    cut 20 (0xF0 ∷ 0xD1 ∷ 0x00 ∷ []) ∷
    cut 24 (0xF0 ∷ 0x00 ∷ 0xD0 ∷ []) ∷
    []

abbrev fit : Sent
fit = cut 16 (0xF0 ∷ 0xD0 ∷ [])

abbrev beyond : Sent
beyond = cut 17 (0xF0 ∷ 0xD0 ∷ 0x00 ∷ [])

-- with RSTE 1 the one is carried out and the other off a boundary; never is a busy part the cause
abbrev reset : Device → Device → List Exchange
reset before after =
    hushed unconfirmed before 0xF0 unfit ++ (beyond ⇒ nothing "off boundary" before 3) ∷
    (fit ⇒ quiet "control" after 2) ∷
    []

abbrev resets : Row
resets =
    row (barred true Awake 9) 0xFF
    (hushed unconfirmed (barred true Awake 9) 0xF0 (fit ∷ beyond ∷ unfit) ++ sleep true ∷
    hushed "asleep" (barred true Deep 0) 0xF0 (fit ∷ beyond ∷ unfit) ++ wake true ∷
    hushed unconfirmed (barred true Awake 0) 0xF0 (fit ∷ beyond ∷ unfit) ++
    (low (0x31 ∷ 0x10 ∷ []) 0 ⇒ quiet "control" (held true true false true true Awake 0) 2) ∷
    reset (held true true false true true Awake 0) (held true true false true true Awake 0))
    []

abbrev resets_busy : Row
resets_busy =
    row (held false false true true false Awake 9) 0xFF
    (reset (held false false true true false Awake 9) (held false false false true false Awake 0)) []

-- AB: asleep off a boundary only, busy and awake always
abbrev resumes : List Sent
resumes =
    cut 8 (0xAB ∷ []) ∷ cut 9 (0xAB ∷ 0x00 ∷ []) ∷ cut 12 (0xAB ∷ 0x00 ∷ []) ∷ cut 16 (0xAB ∷ 0x00 ∷ []) ∷ []

abbrev resume : Row
resume =
    row (barred true Awake 9) 0xFF
    (hushed "busy" (barred true Awake 9) 0xAB resumes ++ sleep true ∷
    hushed "asleep" (barred true Deep 0) 0xAB (cut 9 (0xAB ∷ 0x00 ∷ []) ∷ cut 12 (0xAB ∷ 0x00 ∷ []) ∷ []) ++
    wake true ∷
    hushed "already awake" (barred true Awake 0) 0xAB resumes)
    []

-- an opcode that is not listed, on a boundary or off; no bits at all
abbrev unlisted : Bool → ℕ → List Sent → Row
unlisted wel code frames =
    row (barred wel Awake 9) 0xFF
    (unheard wel code frames ++ hushed "unknown opcode" (barred wel Awake 0) code frames) []

abbrev no_bits : Row
no_bits =
    row (barred true Awake 9) 0xFF
    ((cut 0 [] ⇒ nothing "too few bits" (barred true Awake 9) 0) ∷ sleep true ∷
    (cut 0 [] ⇒ nothing "too few bits" (barred true Deep 0) 0) ∷ wake true ∷
    (cut 0 [] ⇒ nothing "too few bits" (barred true Awake 0) 0) ∷
    [])
    []

-- No cause. Reads of 8 bits to 12: 03, 0B and 77 drive nothing then, 9F and 15 bits of 1Fh, 05 of 87h or 86h
abbrev short : ℕ → List Sent
short code =
    cut 8 (code ∷ []) ∷ cut 9 (code ∷ 0x00 ∷ []) ∷ cut 10 (code ∷ 0x00 ∷ []) ∷ cut 11 (code ∷ 0x00 ∷ []) ∷
    cut 12 (code ∷ 0x00 ∷ []) ∷ []

abbrev reads : ℕ → Row
reads code =
    row (barred true Awake 9) 0x00
    (unheard true code (short code) ++ unmoved (quiet "read") (barred true Awake 0) (short code)) []

abbrev bits_of : ℕ → Device → (nine ten eleven twelve : ℕ) → List Exchange
bits_of code d nine ten eleven twelve =
    (cut 8 (code ∷ []) ⇒ quiet "read" d 1) ∷
    (cut 9 (code ∷ 0x00 ∷ []) ⇒ came "read" 1 1 d (0xFF ∷ nine ∷ [])) ∷
    (cut 10 (code ∷ 0x00 ∷ []) ⇒ came "read" 1 1 d (0xFF ∷ ten ∷ [])) ∷
    (cut 11 (code ∷ 0x00 ∷ []) ⇒ came "read" 1 1 d (0xFF ∷ eleven ∷ [])) ∷
    (cut 12 (code ∷ 0x00 ∷ []) ⇒ came "read" 1 1 d (0xFF ∷ twelve ∷ [])) ∷
    []

abbrev identities : ℕ → Row
identities code =
    row (barred true Awake 9) 0x00
    (unheard true code (short code) ++ bits_of code (barred true Awake 0) 0x7F 0x3F 0x1F 0x1F) []

abbrev statuses : Row
statuses =
    row (barred true Awake 9) 0x00
    (few (barred true Awake 9) 0x05 ∷
    bits_of 0x05 (barred true Awake 9) 0xFF 0xBF 0x9F 0x8F ++ sleep true ∷
    hushed "asleep" (barred true Deep 0) 0x05 (short 0x05) ++ wake true ∷
    bits_of 0x05 (barred true Awake 0) 0xFF 0xBF 0x9F 0x8F)
    []

-- what bars one command does not bar another: 01 with BP0 1, 9B with BP0 and BPL 1, 60 with BPL and the mark 1
abbrev status_guarded : Row
status_guarded =
    row (held false true true false true Awake 0) 0xFF
    ((low (0x01 ∷ 0x80 ∷ []) 0 ⇒ quiet "begun" (held true false false false true Awake 20000) 2) ∷ []) []

abbrev otp_guarded : Row
otp_guarded =
    registered 128 [] (piece 2 3 0x5A ∷ [])
    (row (held true true true false false Awake 0) 0xFF
    ((low (0x9B ∷ 0x00 ∷ 0x00 ∷ 0x02 ∷ 0x5A ∷ []) 0 ⇒ quiet "begun" (barred false Awake 400) 5) ∷ [])
    [])

abbrev erase_guarded : Row
erase_guarded =
    row (held true false true false true Awake 0) 0x00
    ((low (0x60 ∷ []) 0 ⇒ begun 0 0x20000 (held true false false false true Awake 1600000) 1) ∷ [])
    (piece 0 0x20000 0xFF ∷ [])

-- ultra-deep power-down, which any frame ends
abbrev doze : Exchange
doze = low (0x79 ∷ []) 0 ⇒ quiet "control" (barred false UltraDeep 0) 1

abbrev rouse : Sent → Exchange
rouse sent = sent ⇒ quiet "control" (barred false Awake 0) (length sent.bytes)

abbrev ultra : Row
ultra =
    row (barred true UltraDeep 0) 0x00
    (rouse (cut 0 []) ∷ doze ∷ rouse (cut 7 (0xAB ∷ [])) ∷ doze ∷ rouse (cut 8 (0x00 ∷ [])) ∷ doze ∷
    rouse (cut 8 (0x60 ∷ [])) ∷ doze ∷ rouse (cut 12 (0xF0 ∷ 0xD0 ∷ [])) ∷ doze ∷ rouse (cut 12 (0xAB ∷ 0x00 ∷ [])) ∷
    [])
    []

-- refused calls, on a part that is busy, or asleep; accepted, the frame is told busy
abbrev refusals : Row
refusals =
    row (barred true Awake 9) 0x00
    ((cut 7 (0x60 ∷ 0x00 ∷ []) ⇒ refused 4 (barred true Awake 9) 2) ∷
    (given 1 (cut 9 (0x60 ∷ 0x00 ∷ [])) ⇒ spared 5 (barred true Awake 9) 1) ∷
    (paced 1001 (cut 9 (0x60 ∷ 0x00 ∷ [])) ⇒ refused 8 (barred true Awake 9) 2) ∷
    (cut 9 (0x60 ∷ 0x00 ∷ []) ⇒ nothing "busy" (barred true Awake 9) 2) ∷
    [])
    []

abbrev refused_asleep : Row
refused_asleep =
    row (barred true Deep 9) 0x00 ((cut 12 (0xAB ∷ 0x00 ∷ []) ⇒ refused 6 (barred true Deep 9) 2) ∷ []) []

unfoldable pub cause_rows : List Row
cause_rows =
    alone enabled (clocked 7 (0x05 ∷ []) 0) (nothing "too few bits" enabled 1) ∷
    alone (held false false true false false Deep 0) (whole (0x05 ∷ []) 0)
    (nothing "asleep" (held false false true false false Deep 0) 1) ∷
    alone (stands false false true 9) (whole (0x03 ∷ []) 8) (nothing "busy" (stands false false true 1) 1) ∷
    alone enabled (whole (0x00 ∷ []) 0) (nothing "unknown opcode" enabled 1) ∷
    alone idle (whole (0x60 ∷ []) 0) (nothing "latch clear" idle 1) ∷
    alone enabled (whole (0xF0 ∷ 0xD0 ∷ []) 0) (nothing unconfirmed enabled 2) ∷
    alone resettable (whole (0xF0 ∷ 0xD1 ∷ []) 0) (nothing unconfirmed resettable 2) ∷
    alone enabled (clocked 9 (0x60 ∷ 0x00 ∷ []) 0) (aborted "off boundary" idle 2) ∷
    alone enabled (clocked 9 (0x04 ∷ 0x00 ∷ []) 0) (nothing "off boundary" enabled 2) ∷
    alone resettable (clocked 17 (0xF0 ∷ 0xD0 ∷ 0x00 ∷ []) 0) (nothing "off boundary" resettable 3) ∷
    alone enabled (whole (0x20 ∷ 0x00 ∷ 0x00 ∷ []) 0) (aborted "incomplete" idle 3) ∷
    alone (stands false true true 0) (whole (0x60 ∷ []) 0) (aborted "protected" (stands false true false 0) 1) ∷
    alone (stands true false true 0) (low (0x01 ∷ 0x84 ∷ []) 0) (aborted "locked" (stands true false false 0) 2) ∷
    alone (used true) (whole (0x9B ∷ 0x00 ∷ 0x00 ∷ 0x00 ∷ 0x00 ∷ []) 0) (aborted "already programmed" (used false) 5) ∷
    alone enabled (whole (0xAB ∷ []) 0) (nothing "already awake" enabled 1) ∷
    program true ∷
    program false ∷
    erase 0x81 true ∷
    erase 0x20 false ∷
    erase 0x52 true ∷
    erase 0xD8 false ∷
    chip_erase 0x60 true ∷
    chip_erase 0xC7 false ∷
    chip_erase 0x62 true ∷
    otp true ∷
    otp false ∷
    status true ∷
    status false ∷
    status_two_row true ∷
    status_two_row false ∷
    order 0x06 ∷
    order 0x04 ∷
    order 0xB9 ∷
    order 0x79 ∷
    resets ∷
    resets_busy ∷
    resume ∷
    unlisted true 0x00 (cut 8 (0x00 ∷ []) ∷ cut 12 (0x00 ∷ 0x00 ∷ []) ∷ []) ∷
    unlisted false 0xAC (cut 8 (0xAC ∷ []) ∷ cut 12 (0xAC ∷ 0x00 ∷ []) ∷ []) ∷
    no_bits ∷
    reads 0x03 ∷
    reads 0x0B ∷
    reads 0x77 ∷
    identities 0x9F ∷
    identities 0x15 ∷
    statuses ∷
    status_guarded ∷
    otp_guarded ∷
    erase_guarded ∷
    ultra ∷
    refusals ∷
    refused_asleep ∷
    []
