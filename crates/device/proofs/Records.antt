-- What an accepted record is, in numbers, and that it stays one while time passes. Assumes nothing.
use Prim.Native.Nat.{ℕ, ◌-◌, ◌≤◌}
use mathlib.Core.Bool.{Bool, true, false, true≢false, not, ◌&&◌, ◌||◌, and-false}
use mathlib.Core.Path.{◌≡◌, refl}
use native.Mathlib.Omega.{arith}
use borrow.Author.Tests.{ltb-false, le-ltb}
use lib.Dec.{ltb}
use Rattle.settings.specs.Settings.{longest}
use Rattle.device.specs.declared.Device.{Device}
use Rattle.device.specs.Device.{awake, is_busy, unsound, passed}

-- at most the longest duration, and no ticks left unless the part is awake
pub record Sound (d : Device) : Type 0 where
  pub short : d.busy ≤ longest
  pub idle : awake d.mode ≡ false → d.busy ≡ 0

pub sound_then : (d : Device) → unsound d ≡ false → Sound d
sound_then d e = by (ltb longest d.busy) (ltb-false longest d.busy) (ltb 0 d.busy) (ltb-false 0 d.busy) (awake d.mode) refl e
  where
    by : (long : Bool) → (long ≡ false → d.busy ≤ longest) → (busy : Bool) → (busy ≡ false → d.busy ≤ 0) → (up : Bool) → awake d.mode ≡ up
        → (long || (busy && not up)) ≡ false → Sound d
    by true h busy i up m e = absurd (true≢false e)
    by false h true i true m e = record { short = h refl; idle = λ n. absurd (true≢false (rw m at n)) }
    by false h true i false m e = absurd (true≢false e)
    by false h false i up m e = let none : d.busy ≤ 0 = i refl in record { short = h refl; idle = λ n. omega arith }

pub then_sound : (d : Device) → Sound d → unsound d ≡ false
then_sound d s = by (awake d.mode) refl
  where
    by : (up : Bool) → awake d.mode ≡ up → unsound d ≡ false
    by true m = rw (le-ltb longest d.busy s.short, m) (and-false (ltb 0 d.busy))
    by false m = rw (s.idle m)

-- time passes: an idle part stays idle
pub stays_idle : (d : Device) (ticks : ℕ) → is_busy d ≡ false → is_busy (passed d ticks) ≡ false
stays_idle d ticks e = let none : d.busy ≤ 0 = ltb-false 0 d.busy e in le-ltb 0 (d.busy - ticks) (omega arith)

-- and an accepted record one that is accepted
pub passed_sound : (d : Device) (ticks : ℕ) → unsound d ≡ false → unsound (passed d ticks) ≡ false
passed_sound d ticks e =
    let s = sound_then d e in
    let short : d.busy ≤ longest = s.short in
    then_sound (passed d ticks) (record { short = omega arith; idle = λ n. let none : d.busy ≡ 0 = s.idle n in omega arith })
