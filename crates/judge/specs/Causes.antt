-- Why a frame comes to nothing or is aborted: request R-5's list, and when each cause of it holds. What a memory holds
-- is not among its arguments. Assumes nothing.
use Rattle.std.specs.Prelude.{ℕ, ◌%◌, Bool, true, false, not, ◌&&◌, List, [], ◌∷◌, ◌++◌, ◌≡◌, leb, ltb, eqb}
use Rattle.std.specs.Prelude.{Option, Some, None, find}
use Prim.Native.String.{String}
use Rattle.opcodes.specs.declared.Row.{Row}
use Rattle.opcodes.specs.Kinds.{is_unlisted, is_reset, means_array, means_status, means_once}
use Rattle.device.specs.declared.Device.{Device}
use Rattle.device.specs.Device.{awake}
use Rattle.judge.specs.declared.Facts.{Facts}
use Rattle.judge.specs.declared.Cause.{Cause}
use Rattle.judge.specs.declared.Cause.TheVariants.{TooFewBits, Asleep, Busy, UnknownOpcode, LatchClear}
use Rattle.judge.specs.declared.Cause.TheVariants.{ResetUnconfirmed, OffBoundary, Incomplete, Protected, Locked}
use Rattle.judge.specs.declared.Cause.TheVariants.{AlreadyProgrammed, AlreadyAwake}

-- each cause by its number, which is its place in the list, and by its words
abbrev pub cause_number : Cause → ℕ
cause_number TooFewBits = 1
cause_number Asleep = 2
cause_number Busy = 3
cause_number UnknownOpcode = 4
cause_number LatchClear = 5
cause_number ResetUnconfirmed = 6
cause_number OffBoundary = 7
cause_number Incomplete = 8
cause_number Protected = 9
cause_number Locked = 10
cause_number AlreadyProgrammed = 11
cause_number AlreadyAwake = 12

abbrev pub cause_words : Cause → String
cause_words TooFewBits = "too few bits"
cause_words Asleep = "asleep"
cause_words Busy = "busy"
cause_words UnknownOpcode = "unknown opcode"
cause_words LatchClear = "latch clear"
cause_words ResetUnconfirmed = "reset not enabled or not confirmed"
cause_words OffBoundary = "off boundary"
cause_words Incomplete = "incomplete"
cause_words Protected = "protected"
cause_words Locked = "locked"
cause_words AlreadyProgrammed = "already programmed"
cause_words AlreadyAwake = "already awake"

-- where there is no cause, 0 and "none" say so
abbrev pub number_in : Option Cause → ℕ
number_in None = 0
number_in (Some cause) = cause_number cause

abbrev pub words_in : Option Cause → String
words_in None = "none"
words_in (Some cause) = cause_words cause

-- on a boundary: whole bytes were clocked
abbrev pub on_boundary : Facts → Bool
on_boundary f = eqb (f.bits % 8) 0

-- a reset is enabled, and a second byte that was clocked whole confirms it
abbrev pub confirmed : Device → Facts → Bool
confirmed d f = d.rste && (eqb f.second 0xD0 && leb 16 f.bits)

-- when each cause holds: by the row of the opcode, the record and the frame. What a part in deep power-down answers,
-- ABh, is of no use to one that is awake.
abbrev pub holds : Cause → Row → Device → Facts → Bool
holds TooFewBits r d f = ltb f.bits 8
holds Asleep r d f = not (awake d.mode)
holds Busy r d f = f.busy && not r.busy
holds UnknownOpcode r d f = is_unlisted r.command
holds LatchClear r d f = r.latch && not d.wel
holds ResetUnconfirmed r d f = is_reset r.command && not (confirmed d f)
holds OffBoundary r d f = r.boundary && not (on_boundary f)
holds Incomplete r d f = r.latch && ltb f.bytes r.bytes
holds Protected r d f = means_array r.command && d.bp0
holds Locked r d f = means_status r.command && (d.bpl && not f.wp)
holds AlreadyProgrammed r d f = means_once r.command && d.used
holds AlreadyAwake r d f = r.asleep

-- the request's list
abbrev pub causes : List Cause
causes =
    TooFewBits ∷ Asleep ∷ Busy ∷ UnknownOpcode ∷ LatchClear ∷ ResetUnconfirmed ∷ OffBoundary ∷ Incomplete ∷ Protected ∷
    Locked ∷ AlreadyProgrammed ∷ AlreadyAwake ∷ []

-- where several hold, the first
unfoldable pub cause_of : Row → Device → Facts → Option Cause
cause_of r d f = find (λ cause. holds cause r d f) causes

-- that it is the first: it is of the list and holds, and none before it does
abbrev pub NoneOf : (Cause → Bool) → List Cause → Type 0
NoneOf test [] = Unit {0}
NoneOf test (cause ∷ rest) = (test cause ≡ false) × NoneOf test rest

pub record IsFirst (test : Cause → Bool) (list : List Cause) (cause : Cause) : Type 0 where
  pub earlier : List Cause
  pub later : List Cause
  pub listed : list ≡ earlier ++ (cause ∷ later)
  pub held : test cause ≡ true
  pub none_earlier : NoneOf test earlier

-- a frame with this cause is aborted and drops WEL, which its command needed and had
abbrev pub drops : Cause → Row → Bool
drops TooFewBits r = false
drops Asleep r = false
drops Busy r = false
drops UnknownOpcode r = false
drops LatchClear r = false
drops ResetUnconfirmed r = false
drops OffBoundary r = r.latch
drops Incomplete r = true
drops Protected r = true
drops Locked r = true
drops AlreadyProgrammed r = true
drops AlreadyAwake r = false
