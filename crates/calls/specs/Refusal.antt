-- When a call is refused. The refusals see lengths, the record, the settings, the bits clocked and the ticks per byte position, and never a
-- byte that is lent. Assumes nothing.
use Rattle.std.specs.Prelude.{ℕ, ◌+◌, ◌/◌, cond, not, ltb, eqb, Result, Ok, Err}
use Rattle.refusals.specs.declared.Refusal.{Refusal}
use Rattle.refusals.specs.declared.Refusal.TheVariants.{ArrayLength, RegisterLength, InputLength, BitCount, OutputLength, Record, Duration, Pace}
use Rattle.settings.specs.declared.Settings.{Settings}
use Rattle.settings.specs.Settings.{any_unfair}
use Rattle.device.specs.declared.Device.{Device}
use Rattle.device.specs.Device.{unsound}
use Rattle.memories.specs.Sizes.{is_array, is_register}
use Rattle.calls.specs.declared.Lengths.{Lengths}
use Rattle.calls.specs.declared.Signals.{Signals}

-- the bytes that so many bits need: divided by 8, rounded up
abbrev pub bytes_for : ℕ → ℕ
bytes_for bits = (bits + 7) / 8

abbrev pub lengths_of : ℕ → ℕ → ℕ → ℕ → Lengths
lengths_of array register input output = record { array = array; register = register; input = input; output = output }

-- why a call is refused, in the papers' order: the first that applies
unfoldable pub refusal_of : Device → Settings → Signals → Lengths → Result (Unit {0}) Refusal
refusal_of d s signals lengths =
    cond (not (is_array lengths.array)) (Err ArrayLength)
    (cond (not (is_register lengths.register)) (Err RegisterLength)
    (cond (ltb 8192 lengths.input) (Err InputLength)
    (cond (not (eqb (bytes_for signals.bits) lengths.input)) (Err BitCount)
    (cond (ltb lengths.output lengths.input) (Err OutputLength)
    (cond (unsound d) (Err Record)
    (cond (any_unfair s.ticks) (Err Duration)
    (cond (ltb 1000 signals.pace) (Err Pace)
    (Ok tt))))))))
