-- Judging a frame: from the record at its rise, the settings and the facts of the frame to the record afterwards, the
-- outcome, the driven positions and what is to be done. What a memory holds is not among its arguments. Assumes
-- nothing.
use Rattle.std.specs.Prelude.{Option, Some, None, ℕ, ◌-◌, min, Bool, cond, not, ◌&&◌, ltb, eqb}
use Rattle.opcodes.specs.declared.Row.{Row}
use Rattle.opcodes.specs.declared.Command.{Command}
use Rattle.opcodes.specs.declared.Command.TheVariants.{Unlisted, Reads, Orders, Works}
use Rattle.opcodes.specs.declared.Source.{Source}
use Rattle.opcodes.specs.declared.Order.{Order}
use Rattle.opcodes.specs.declared.Order.TheVariants.{Enable, Disable, DeepPowerDown, UltraDeepPowerDown, Resume, Reset}
use Rattle.opcodes.specs.declared.Region.{Region}
use Rattle.opcodes.specs.declared.Region.TheVariants.{Page, Small, Large, Chip}
use Rattle.opcodes.specs.declared.Work.{Work}
use Rattle.opcodes.specs.Rows.{row_of}
use Rattle.device.specs.declared.Device.{Device}
use Rattle.device.specs.declared.Mode.TheVariants.{Awake, Deep, UltraDeep}
use Rattle.settings.specs.declared.Settings.{Settings}
use Rattle.settings.specs.declared.Kind.{Kind}
use Rattle.settings.specs.declared.Kind.TheVariants.{ByteProgram, LongerProgram, PageErase, SmallErase, LargeErase}
use Rattle.settings.specs.declared.Kind.TheVariants.{ChipErase, OtpProgram, StatusWrite}
use Rattle.judge.specs.declared.Facts.{Facts}
use Rattle.judge.specs.declared.Judged.{Judged}
use Rattle.judge.specs.declared.Cause.{Cause}
use Rattle.judge.specs.declared.Cause.TheVariants.{UnknownOpcode}
use Rattle.judge.specs.declared.Outcome.{Outcome}
use Rattle.judge.specs.declared.Action.{Action}
use Rattle.device.specs.Device.{deep, ultra_deep, latched, dropped, moved, woken, working, reset, marked, written}
use Rattle.device.specs.Device.{enabled}
use Rattle.judge.specs.Causes.{on_boundary, cause_of, drops}
use Rattle.settings.specs.Settings.{duration_of}

-- an outcome with nothing driven and no memory to change
abbrev pub quiet : Outcome → Device → Judged
quiet outcome d = record { device = d; outcome = outcome; first = 0; driven = 0; action = Action.Still }

-- nothing came of the frame, for this cause
abbrev pub nothing : Cause → Device → Judged
nothing cause d = quiet (Outcome.Nothing cause) d

-- a control command was carried out
abbrev pub control : Device → Judged
control d = quiet Outcome.Control d

-- WEL dropped, no operation, for this cause
abbrev pub aborted : Cause → Device → Judged
aborted cause d = quiet (Outcome.Aborted cause) (dropped d)

-- an operation takes effect: WEL drops, and the part is busy for the duration
abbrev pub begun : Device → ℕ → Action → Judged
begun d ticks action =
    record { device = working (dropped d) ticks; outcome = Outcome.Begun; first = 0; driven = 0; action = action }

-- a read drives from its first position on, as many positions as the frame has, and no more than its row says
abbrev pub driven : Row → Facts → ℕ
driven r f = min (f.bytes - r.first) r.most

-- a read: where it drives nothing, its first driven position is 0 too
abbrev pub read : Row → Source → Device → Facts → Judged
read r source d f =
    record {
      device = d;
      outcome = Outcome.Read;
      first = cond (eqb (driven r f) 0) 0 r.first;
      driven = driven r f;
      action = Action.Drive source;
    }

-- the control commands: what each makes of the record
abbrev pub changed : Order → Device → Device
changed Enable d = latched d
changed Disable d = dropped d
changed DeepPowerDown d = moved d Deep
changed UltraDeepPowerDown d = moved d UltraDeep
changed Resume d = moved d Awake
changed Reset d = reset d

abbrev pub ordered : Order → Device → Judged
ordered order d = control (changed order d)

abbrev pub erase_kind : Region → Kind
erase_kind Page = PageErase
erase_kind Small = SmallErase
erase_kind Large = LargeErase
erase_kind Chip = ChipErase

-- a program's duration goes by the bytes sent: in five bytes there is one data byte
abbrev pub program_kind : Facts → Kind
program_kind f = cond (eqb f.bytes 5) ByteProgram LongerProgram

-- the commands that need WEL
abbrev pub carried : Work → Device → Settings → Facts → Judged
carried Work.Program d s f = begun d (duration_of s (program_kind f)) Action.Program
carried (Work.Erase region) d s f = begun d (duration_of s (erase_kind region)) (Action.Erase region)
carried Work.Otp d s f = begun (marked d) (duration_of s OtpProgram) Action.Otp
carried Work.WriteStatus d s f = begun (written d f.second) (duration_of s StatusWrite) Action.Still
carried Work.WriteStatusTwo d s f = control (enabled (dropped d) f.second)

-- a command is carried out
abbrev pub obeyed : Command → Row → Device → Settings → Facts → Judged
obeyed Unlisted r d s f = nothing UnknownOpcode d
obeyed (Reads source) r d s f = read r source d f
obeyed (Orders order) r d s f = ordered order d
obeyed (Works work) r d s f = carried work d s f

-- without a cause a command is carried out; with one it is aborted, if it needs WEL and has it, or comes to nothing
unfoldable pub ended : Option Cause → Row → Device → Settings → Facts → Judged
ended None r d s f = obeyed r.command r d s f
ended (Some cause) r d s f = cond (drops cause r) (aborted cause d) (nothing cause d)

-- in deep power-down the row that says so wakes the part, on a boundary: ABh
abbrev pub wakes : Row → Device → Facts → Bool
wakes r d f = deep d.mode && (not (ltb f.bits 8) && (r.asleep && on_boundary f))

-- Judging a frame, in this order:
-- 1. from ultra-deep every frame wakes the part, however short
-- 2. from deep power-down ABh does
-- 3. all else by the first cause of the list, or by opcode if none holds
unfoldable pub judged : Device → Settings → Facts → Judged
judged d s f =
    cond (ultra_deep d.mode) (control (woken d))
    (cond (wakes (row_of f.code) d f) (ordered Resume d)
    (ended (cause_of (row_of f.code) d f) (row_of f.code) d s f))
