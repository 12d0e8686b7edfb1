-- Judging a frame step by step, as the code goes: which of the causes each opcode knows, in the list's order. That it
-- is judging by the list is a law. Assumes nothing.
use Rattle.std.specs.Prelude.{Option, None, cond, not, ◌&&◌, ltb}
use Rattle.std.specs.Bool.{then_some}
use Rattle.std.specs.Option.{option_map_or}
use Rattle.opcodes.specs.declared.Row.{Row}
use Rattle.opcodes.specs.declared.Command.{Command}
use Rattle.opcodes.specs.declared.Command.TheVariants.{Unlisted, Reads, Orders, Works}
use Rattle.opcodes.specs.declared.Order.{Order}
use Rattle.opcodes.specs.declared.Order.TheVariants.{Enable, Disable, DeepPowerDown, UltraDeepPowerDown, Resume, Reset}
use Rattle.opcodes.specs.declared.Work.{Work}
use Rattle.opcodes.specs.Rows.{row_of}
use Rattle.device.specs.declared.Device.{Device}
use Rattle.device.specs.Device.{deep, ultra_deep, woken}
use Rattle.settings.specs.declared.Settings.{Settings}
use Rattle.judge.specs.declared.Facts.{Facts}
use Rattle.judge.specs.declared.Judged.{Judged}
use Rattle.judge.specs.declared.Cause.{Cause}
use Rattle.judge.specs.declared.Cause.TheVariants.{TooFewBits, Asleep, Busy, UnknownOpcode, LatchClear}
use Rattle.judge.specs.declared.Cause.TheVariants.{ResetUnconfirmed, OffBoundary, Incomplete, Protected, Locked}
use Rattle.judge.specs.declared.Cause.TheVariants.{AlreadyProgrammed, AlreadyAwake}
use Rattle.judge.specs.Causes.{on_boundary, confirmed}
use Rattle.judge.specs.Judging.{nothing, aborted, control, read, ordered, carried}

-- a control command needs a boundary
abbrev pub bounded : Order → Device → Facts → Judged
bounded order d f = cond (not (on_boundary f)) (nothing OffBoundary d) (ordered order d)

-- but a resume finds the part awake, and a reset is confirmed first
abbrev pub ordering : Order → Device → Facts → Judged
ordering Enable d f = bounded Enable d f
ordering Disable d f = bounded Disable d f
ordering DeepPowerDown d f = bounded DeepPowerDown d f
ordering UltraDeepPowerDown d f = bounded UltraDeepPowerDown d f
ordering Resume d f = nothing AlreadyAwake d
ordering Reset d f = cond (not (confirmed d f)) (nothing ResetUnconfirmed d) (bounded Reset d f)

-- what bars a command that needs WEL: protection, the OTP-used mark, BPL 1 with WP low
abbrev pub bar : Work → Device → Facts → Option Cause
bar Work.Program d f = then_some d.bp0 Protected
bar (Work.Erase region) d f = then_some d.bp0 Protected
bar Work.Otp d f = then_some d.used AlreadyProgrammed
bar Work.WriteStatus d f = then_some (d.bpl && not f.wp) Locked
bar Work.WriteStatusTwo d f = None

abbrev pub working : Work → Row → Device → Settings → Facts → Judged
working work r d s f =
    cond (not d.wel) (nothing LatchClear d)
    (cond (not (on_boundary f)) (aborted OffBoundary d)
    (cond (ltb f.bytes r.bytes) (aborted Incomplete d)
    (option_map_or (λ cause. aborted cause d) (bar work d f)
    (carried work d s f))))

abbrev pub by_opcode : Command → Row → Device → Settings → Facts → Judged
by_opcode Unlisted r d s f = nothing UnknownOpcode d
by_opcode (Reads source) r d s f = read r source d f
by_opcode (Orders order) r d s f = ordering order d f
by_opcode (Works work) r d s f = working work r d s f

-- in deep power-down only the row that says so is heard, on a boundary: ABh
abbrev pub asleep : Row → Device → Facts → Judged
asleep r d f = cond (r.asleep && on_boundary f) (ordered Resume d) (nothing Asleep d)

-- document 01's five steps
unfoldable pub stepped : Device → Settings → Facts → Judged
stepped d s f =
    cond (ultra_deep d.mode) (control (woken d))
    (cond (ltb f.bits 8) (nothing TooFewBits d)
    (cond (deep d.mode) (asleep (row_of f.code) d f)
    (cond (f.busy && not (row_of f.code).busy) (nothing Busy d)
    (by_opcode (row_of f.code).command (row_of f.code) d s f))))
