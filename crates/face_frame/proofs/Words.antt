-- What is known of words that stand for a call. Assumes nothing.
use Prim.Native.Nat.{ℕ}
use mathlib.Core.Bool.{true, ◌&&◌, and-eq-true_iff}
use mathlib.Core.List.{List}
use mathlib.Core.Path.{◌≡◌, ap}
use lib.ListN.{length}
use Rattle.settings.specs.declared.Settings.{Settings}
use Rattle.device.specs.declared.Device.{Device}
use Rattle.calls.specs.declared.Signals.{Signals}
use Rattle.part.specs.Frame.{Lent, call, frame, Came, reply_of, Meets}
use Rattle.face_words.specs.Words.{packed, is_record, device_of, is_settings, settings_of, is_signals, signals_of, record_lent, answer_lent, as_lent, answer_of}
use Rattle.face_words.proofs.Records.{record_right}
use Rattle.face_frame.specs.Words.{Handed, is_call, call_of, left, told}

-- the four tests of a call
tests : (h : Handed) → is_call h ≡ true → ((is_record h.device ≡ true) × (is_settings h.settings ≡ true)) × (answer_lent (length h.answer) ≡ true)
tests h right =
    let all = (and-eq-true_iff (is_record h.device && is_settings h.settings && is_signals h.signals) (answer_lent (length h.answer))).0 right in
    let three = (and-eq-true_iff (is_record h.device && is_settings h.settings) (is_signals h.signals)).0 all.0 in
    ((and-eq-true_iff (is_record h.device) (is_settings h.settings)).0 three.0, all.1)

pub record_read : (h : Handed) → is_call h ≡ true → is_record h.device ≡ true
record_read h right = (tests h right).0.0

-- enough words are lent for the record and for the answer
pub enough : (h : Handed) → is_call h ≡ true → (record_lent (length h.device) ≡ true) × (answer_lent (length h.answer) ≡ true)
enough h right = ((record_right h.device (record_read h right)).long, (tests h right).1)

-- a frame's result, told as words, is the face's
pub as_told : (h : Handed) (m n : Lent) (d : Device) (s : Settings) (g : Signals) (a : Came) (number : ℕ)
    (device answer : List ℕ)
    → d ≡ device_of h.device → s ≡ settings_of h.settings → g ≡ signals_of h.signals → Meets (call d s h.input g) m a n
    → number ≡ (reply_of d a).refusal → device ≡ as_lent h.device (packed (reply_of d a).device)
    → answer ≡ as_lent h.answer (answer_of (reply_of d a))
    → left number device answer n ≡ told h (frame (call_of h) m)
as_told h m n d s g a number device answer p q t e x y z = rw (x, y, z, ← p, ← q, ← t) (ap (told h) e)
