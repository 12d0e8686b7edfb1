-- What is known of a call that is not refused. Assumes nothing.
use Prim.Native.Nat.{◌≤◌}
use mathlib.Core.Bool.{Bool, true, false, cond}
use mathlib.Core.Path.{◌≡◌, refl}
use borrow.Author.Tests.{ltb-false, eqb-true, not-false}
use Rattle.refusals.specs.declared.Refusal.{Refusal}
use Rattle.refusals.specs.declared.Refusal.TheVariants.{ArrayLength, RegisterLength, InputLength, BitCount, OutputLength, Record, Duration, Pace}
use Rattle.refusals.specs.Refusals.{number_in}
use Rattle.refusals.proofs.Numbers.{never_0}
use Rattle.std.specs.Prelude.{Result, Err}
use Rattle.settings.specs.declared.Settings.{Settings}
use Rattle.settings.specs.Settings.{any_unfair}
use Rattle.device.specs.declared.Device.{Device}
use Rattle.device.specs.Device.{unsound}
use Rattle.memories.specs.Sizes.{is_array}
use Rattle.memories.proofs.Long.{register_long}
use Rattle.calls.specs.declared.Lengths.{Lengths}
use Rattle.calls.specs.declared.Signals.{Signals}
use Rattle.calls.specs.Refusal.{bytes_for, refusal_of}

-- a refusal has a number other than 0, so where the number is 0 it was not given
passed : (b : Bool) (r : Refusal) (m : Result (Unit {0}) Refusal) → number_in (cond b (Err r) m) ≡ 0 → (b ≡ false) × (number_in m ≡ 0)
passed true r m e = absurd (never_0 r e)
passed false r m e = (refl, e)

-- what is known of an accepted call
pub record Accepting (d : Device) (s : Settings) (signals : Signals) (lengths : Lengths) : Type 0 where
  pub array : is_array lengths.array ≡ true
  pub register : lengths.register ≡ 128
  pub short : lengths.input ≤ 8192
  pub fits : bytes_for signals.bits ≡ lengths.input
  pub room : lengths.input ≤ lengths.output
  pub sound : unsound d ≡ false
  pub fair : any_unfair s.ticks ≡ false
  pub quick : signals.pace ≤ 1000

pub accepted : (d : Device) (s : Settings) (signals : Signals) (lengths : Lengths) → number_in (refusal_of d s signals lengths) ≡ 0 → Accepting d s signals lengths
unfolding refusal_of
accepted d s signals lengths e =
    let one = passed _ ArrayLength _ e in
    let two = passed _ RegisterLength _ one.1 in
    let three = passed _ InputLength _ two.1 in
    let four = passed _ BitCount _ three.1 in
    let five = passed _ OutputLength _ four.1 in
    let six = passed _ Record _ five.1 in
    let seven = passed _ Duration _ six.1 in
    let eight = passed _ Pace _ seven.1 in
    record {
      array = not-false _ one.0;
      register = register_long lengths.register (not-false _ two.0);
      short = ltb-false _ _ three.0;
      fits = eqb-true _ _ (not-false _ four.0);
      room = ltb-false _ _ five.0;
      sound = six.0;
      fair = seven.0;
      quick = ltb-false _ _ eight.0;
    }
