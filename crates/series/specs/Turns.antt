-- A series of calls, each given the record that the last one returned: what comes back, and which operations on the
-- array take effect. All of it is computed from the first record, the settings, the frames with their levels and ticks,
-- and the lengths of what is lent; no type here has a place for a byte that is stored. Assumes nothing.
use Rattle.std.specs.Prelude.{ℕ, cond, List, [], ◌∷◌, eqb, length}
use Rattle.runs.specs.Run as run
use Rattle.device.specs.declared.Device.{Device}
use Rattle.settings.specs.declared.Settings.{Settings}
use Rattle.calls.specs.declared.Lengths.{Lengths}
use Rattle.calls.specs.declared.Signals.{Signals}
use Rattle.operations.specs.Operations.{Operation, on_array, on_register}
use Rattle.part.specs.Frame.{Call, Reply, call, number_for, judged_of, replied}
use Rattle.part.specs.Effect.{takes_effect, operation_of}

-- What a call is handed beside the record: the settings, the input bytes, the bits clocked with WP's level, the ticks
-- elapsed and the ticks per byte position, and how many bytes of array, register and output it is lent, which may be
-- any numbers.
pub record Turn : Type 0 where
  pub settings : Settings
  pub input : List ℕ
  pub signals : Signals
  pub array : ℕ
  pub register : ℕ
  pub output : ℕ

abbrev pub call_of : Turn → Device → Call
call_of t d = call d t.settings t.input t.signals

abbrev pub lengths_of : Turn → Lengths
lengths_of t = record { array = t.array; register = t.register; input = length t.input; output = t.output }

-- what comes back
abbrev pub reply_to : Turn → Device → Reply
reply_to t d = replied (call_of t d) (lengths_of t)

-- the operation on the array, if one takes effect by demand 2's rule
abbrev pub effect_of : Turn → Device → List Operation
effect_of t d = cond (takes_effect (call_of t d) (lengths_of t)) (operation_of (call_of t d) (lengths_of t) ∷ []) []

-- what an accepted call does to array and register, by its action
abbrev pub done_of : Turn → Device → List Operation
done_of t d =
    cond (eqb (number_for (call_of t d) (lengths_of t)) 0)
    (on_array (judged_of (call_of t d)).action t.array t.input ∷ []) []

abbrev pub once_of : Turn → Device → List Operation
once_of t d =
    cond (eqb (number_for (call_of t d) (lengths_of t)) 0) (on_register (judged_of (call_of t d)).action t.input ∷ []) []

-- and the record that goes on to the next call
abbrev pub onward : Turn → Device → Device
onward t d = (reply_to t d).device

-- each call's answer, in order
abbrev pub replies : List Turn → Device → List Reply
replies ts d = run.outputs onward reply_to ts d

-- the operations that took effect, in order
abbrev pub operations : List Turn → Device → List Operation
operations ts d = run.gathered onward effect_of ts d

-- the last record
abbrev pub last_record : List Turn → Device → Device
last_record ts d = run.end onward ts d
