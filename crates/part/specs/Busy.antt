-- What a call does to the busy ticks, told from its outcome: for those who stand above the part. Assumes nothing.
use Rattle.std.specs.Prelude.{ℕ, ◌+◌, ◌*◌, ◌-◌, Bool, cond, ◌&&◌}
use lib.Text.{eqt}
use Rattle.opcodes.specs.Kinds.{is_reset}
use Rattle.opcodes.specs.Rows.{row_of}
use Rattle.judge.specs.Begins.{lasts}
use Rattle.device.specs.Device.{awake}
use Rattle.calls.specs.Refusal.{bytes_for}
use Rattle.calls.specs.declared.Signals.{Signals}
use Rattle.part.specs.Frame.{Call, Reply, facts_of}

-- the ticks of a call: those elapsed, and those of the frame, a partial last byte position too
abbrev pub ticks_of : Signals → ℕ
ticks_of signals = signals.elapsed + bytes_for signals.bits * signals.pace

-- a reset was carried out: its opcode was answered with control, by a part that was awake
abbrev pub resets : Call → Reply → Bool
resets c r = awake c.device.mode && (is_reset (row_of (facts_of c).code).command && eqt r.outcome "control")

-- how long the operation takes that the frame may begin
abbrev pub lasts_for : Call → ℕ
lasts_for c = lasts (row_of (facts_of c).code).command c.settings (facts_of c)

-- the busy ticks that an accepted call leaves: all of an operation that it began, none after a reset, and otherwise
-- what its ticks left
abbrev pub busy_after : Call → Reply → ℕ
busy_after c r =
    cond (eqt r.outcome "begun") (lasts_for c) (cond (resets c r) 0 (c.device.busy - ticks_of c.signals))
