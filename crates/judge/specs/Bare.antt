-- Judging a frame as document 01 has it, without a cause: so it stood before request R-5. With the causes struck out
-- judging is this; that is a law. Assumes nothing.
use Rattle.std.specs.Prelude.{Bool, false, cond, not, ◌&&◌, ◌||◌, leb, ltb, eqb}
use Rattle.opcodes.specs.declared.Row.{Row}
use Rattle.opcodes.specs.declared.Command.{Command}
use Rattle.opcodes.specs.declared.Command.TheVariants.{Unlisted, Reads, Orders, Works}
use Rattle.opcodes.specs.declared.Order.{Order}
use Rattle.opcodes.specs.declared.Order.TheVariants.{Enable, Disable, DeepPowerDown, UltraDeepPowerDown, Resume, Reset}
use Rattle.opcodes.specs.declared.Work.{Work}
use Rattle.opcodes.specs.Rows.{row_of}
use Rattle.device.specs.declared.Device.{Device}
use Rattle.device.specs.declared.Mode.TheVariants.{Awake, Deep, UltraDeep}
use Rattle.settings.specs.declared.Settings.{Settings}
use Rattle.judge.specs.declared.Facts.{Facts}
use Rattle.judge.specs.declared.Judged.{Judged}
use Rattle.judge.specs.declared.Cause.{Cause}
use Rattle.judge.specs.declared.Cause.TheVariants.{TooFewBits}
use Rattle.judge.specs.declared.Outcome.{Outcome}
use Rattle.device.specs.Device.{deep, ultra_deep, latched, dropped, moved, woken, reset}
use Rattle.judge.specs.Causes.{on_boundary}
use Rattle.judge.specs.Judging.{quiet, control, read, carried}

-- one cause stands where any was struck out, and so tells nothing
abbrev pub any_cause : Cause
any_cause = TooFewBits

-- the cause struck out of an outcome, and of what was judged
abbrev pub struck : Outcome → Outcome
struck (Outcome.Nothing cause) = Outcome.Nothing any_cause
struck Outcome.Read = Outcome.Read
struck Outcome.Control = Outcome.Control
struck (Outcome.Aborted cause) = Outcome.Aborted any_cause
struck Outcome.Begun = Outcome.Begun

abbrev pub uncaused : Judged → Judged
uncaused j =
    record {
      device = j.device;
      outcome = struck j.outcome;
      first = j.first;
      driven = j.driven;
      action = j.action;
    }

abbrev nothing : Device → Judged
nothing d = quiet (Outcome.Nothing any_cause) d

-- WEL dropped, no operation
abbrev aborted : Device → Judged
aborted d = quiet (Outcome.Aborted any_cause) (dropped d)

-- the control commands, on a boundary
abbrev ordered : Order → Device → Facts → Judged
ordered Enable d f = control (latched d)
ordered Disable d f = control (dropped d)
ordered DeepPowerDown d f = control (moved d Deep)
ordered UltraDeepPowerDown d f = control (moved d UltraDeep)
ordered Resume d f = nothing d
ordered Reset d f = cond (d.rste && eqb f.second 0xD0) (control (reset d)) (nothing d)

-- what keeps a command that needs WEL from being carried out: protection, the OTP-used mark, BPL 1 with WP low
abbrev barred : Work → Device → Facts → Bool
barred Work.Program d f = d.bp0
barred (Work.Erase region) d f = d.bp0
barred Work.Otp d f = d.used
barred Work.WriteStatus d f = d.bpl && not f.wp
barred Work.WriteStatusTwo d f = false

-- complete, on a boundary and with WEL 1 it is carried out or aborted
abbrev worked : Work → Device → Settings → Facts → Judged
worked work d s f = cond (barred work d f) (aborted d) (carried work d s f)

abbrev obeyed : Command → Row → Device → Settings → Facts → Judged
obeyed Unlisted r d s f = nothing d
obeyed (Reads source) r d s f = read r source d f
obeyed (Orders order) r d s f = ordered order d f
obeyed (Works work) r d s f = worked work d s f

-- enough bytes for the row, and a boundary where it needs one
abbrev complete : Row → Facts → Bool
complete r f = leb r.bytes f.bytes && (on_boundary f || not r.boundary)

-- by opcode: with WEL 0 a command that needs it is nothing, with WEL 1 it is carried out or aborted
unfoldable pub by_opcode : Row → Device → Settings → Facts → Judged
by_opcode r d s f =
    cond (r.latch && not d.wel) (nothing d)
    (cond (complete r f) (obeyed r.command r d s f)
    (cond r.latch (aborted d)
    (nothing d)))

-- in deep power-down only the row that says so is heard, on a boundary: ABh
abbrev asleep : Row → Device → Facts → Judged
asleep r d f = cond (r.asleep && on_boundary f) (control (moved d Awake)) (nothing d)

-- Judging a frame, in this order:
-- 1. from ultra-deep every frame wakes the part, however short
-- 2. less than an opcode is nothing
-- 3. in deep power-down, as `asleep` says
-- 4. busy at its first bit, nothing but the rows that a busy part answers: 05h and F0h
-- 5. all else by opcode
unfoldable pub bare : Device → Settings → Facts → Judged
bare d s f =
    cond (ultra_deep d.mode) (control (woken d))
    (cond (ltb f.bits 8) (nothing d)
    (cond (deep d.mode) (asleep (row_of f.code) d f)
    (cond (f.busy && not (row_of f.code).busy) (nothing d)
    (by_opcode (row_of f.code) d s f))))
