-- When a frame begins an operation on the array: all that has to hold, in one line; and how long an operation takes.
-- Assumes nothing.
use Rattle.std.specs.Prelude.{ℕ, Bool, true, false, not, ◌&&◌, ltb}
use Rattle.opcodes.specs.declared.Command.{Command}
use Rattle.opcodes.specs.declared.Command.TheVariants.{Unlisted, Reads, Orders, Works}
use Rattle.opcodes.specs.declared.Work.{Work}
use Rattle.opcodes.specs.Rows.{row_of}
use Rattle.opcodes.specs.Kinds.{means_array}
use Rattle.device.specs.declared.Device.{Device}
use Rattle.judge.specs.declared.Action.{Action}
use Rattle.judge.specs.declared.Facts.{Facts}
use Rattle.device.specs.Device.{awake}
use Rattle.settings.specs.declared.Kind.{Kind}
use Rattle.settings.specs.declared.Settings.{Settings}
use Rattle.settings.specs.Settings.{duration_of}
use Rattle.judge.specs.Causes.{on_boundary}
use Rattle.judge.specs.Judging.{erase_kind, program_kind}

-- the action programs or erases the array
abbrev pub changes_array : Action → Bool
changes_array Action.Still = false
changes_array (Action.Drive source) = false
changes_array Action.Program = true
changes_array (Action.Erase region) = true
changes_array Action.Otp = false

-- what a program or an erase asks for; nothing, of any other opcode
abbrev pub work_asks : Work → Action
work_asks Work.Program = Action.Program
work_asks (Work.Erase region) = Action.Erase region
work_asks Work.Otp = Action.Still
work_asks Work.WriteStatus = Action.Still
work_asks Work.WriteStatusTwo = Action.Still

abbrev pub asks_for : Command → Action
asks_for Unlisted = Action.Still
asks_for (Reads source) = Action.Still
asks_for (Orders order) = Action.Still
asks_for (Works work) = work_asks work

-- a whole opcode, the part awake and idle at the first bit, a program or an erase, write-enabled, on a boundary,
-- complete, unprotected
abbrev pub ready : Device → Facts → Bool
ready d f =
    not (ltb f.bits 8) &&
    (awake d.mode &&
    (not f.busy &&
    (means_array (row_of f.code).command &&
    (d.wel && (on_boundary f && (not (ltb f.bytes (row_of f.code).bytes) && not d.bp0))))))

-- how many ticks the operation of an opcode takes, from the rise of its frame on; none, of an opcode that begins none
abbrev pub work_lasts : Work → Settings → Facts → ℕ
work_lasts Work.Program s f = duration_of s (program_kind f)
work_lasts (Work.Erase region) s f = duration_of s (erase_kind region)
work_lasts Work.Otp s f = duration_of s Kind.OtpProgram
work_lasts Work.WriteStatus s f = duration_of s Kind.StatusWrite
work_lasts Work.WriteStatusTwo s f = 0

abbrev pub lasts : Command → Settings → Facts → ℕ
lasts Unlisted s f = 0
lasts (Reads source) s f = 0
lasts (Orders order) s f = 0
lasts (Works work) s f = work_lasts work s f
