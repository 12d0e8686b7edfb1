-- A call is never refused with the ledger's refusal. Assumes nothing.
use mathlib.Core.Bool.{Bool, true, false, cond, not}
use mathlib.Core.Logic.{◌≢◌}
use mathlib.Core.Path.{ap}
use native.Mathlib.Omega.{arith}
use lib.Dec.{ltb, eqb}
use Rattle.refusals.specs.declared.Refusal.{Refusal}
use Rattle.refusals.specs.declared.Refusal.TheVariants.{ArrayLength, RegisterLength, InputLength, BitCount, OutputLength, Record, Duration, Pace, Account}
use Rattle.refusals.specs.Refusals.{number_in}
use Rattle.std.specs.Prelude.{Result, Ok, Err}
use Rattle.settings.specs.declared.Settings.{Settings}
use Rattle.settings.specs.Settings.{any_unfair}
use Rattle.device.specs.declared.Device.{Device}
use Rattle.device.specs.Device.{unsound}
use Rattle.memories.specs.Sizes.{is_array, is_register}
use Rattle.calls.specs.declared.Lengths.{Lengths}
use Rattle.calls.specs.declared.Signals.{Signals}
use Rattle.calls.specs.Refusal.{bytes_for, refusal_of}

-- the number tells it from the ledger's
apart : (came : Result (Unit {0}) Refusal) → number_in came ≢ 9 → came ≢ Err Account
apart came n e = n (ap number_in e)

pub not_the_ledgers : (d : Device) (s : Settings) (signals : Signals) (lengths : Lengths) → refusal_of d s signals lengths ≢ Err Account
unfolding refusal_of
not_the_ledgers d s signals lengths =
    by (not (is_array lengths.array)) (not (is_register lengths.register)) (ltb 8192 lengths.input)
    (not (eqb (bytes_for signals.bits) lengths.input)) (ltb lengths.output lengths.input) (unsound d) (any_unfair s.ticks) (ltb 1000 signals.pace)
  where
    by : (a b c e f g h i : Bool)
        → cond a (Err ArrayLength) (cond b (Err RegisterLength) (cond c (Err InputLength) (cond e (Err BitCount) (cond f (Err OutputLength) (cond g (Err Record) (cond h (Err Duration) (cond i (Err Pace) (Ok (tt {0})))))))))
        ≢ Err Account
    by true b c e f g h i = apart (Err ArrayLength) (λ e. omega arith)
    by false true c e f g h i = apart (Err RegisterLength) (λ e. omega arith)
    by false false true e f g h i = apart (Err InputLength) (λ e. omega arith)
    by false false false true f g h i = apart (Err BitCount) (λ e. omega arith)
    by false false false false true g h i = apart (Err OutputLength) (λ e. omega arith)
    by false false false false false true h i = apart (Err Record) (λ e. omega arith)
    by false false false false false false true i = apart (Err Duration) (λ e. omega arith)
    by false false false false false false false true = apart (Err Pace) (λ e. omega arith)
    by false false false false false false false false = apart (Ok (tt {0})) (λ e. omega arith)
