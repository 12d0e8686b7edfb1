-- What a frame by words promises holds. Assumes nothing.
use mathlib.Core.Bool.{Bool, true, false}
use mathlib.Core.Logic.{◌≢◌}
use mathlib.Core.Path.{◌≡◌, refl, sym, ap, ◌∙◌}
use Rattle.device.specs.declared.Device.{Device}
use Rattle.part.specs.Frame.{Call, Lent, lengths_of, frame}
use Rattle.part.proofs.Answers.{refused_leaves, call_never_255}
use Rattle.face_words.specs.Words.{is_record, device_of, packed, as_lent}
use Rattle.face_words.proofs.Records.{record_whole, written_back, is_record_lem, same_record}
use Rattle.face_frame.specs.Words.{Handed, is_call, call_of, told, unread, faced}
use Rattle.face_frame.specs.Promises.{Promises}
use Rattle.face_frame.proofs.Words.{record_read, enough}

-- the two ways of a call
read : (h : Handed) (m : Lent) → is_call h ≡ true → faced h m ≡ told h (frame (call_of h) m)
unfolding faced
read h m e = rw e

passed_over : (h : Handed) (m : Lent) → is_call h ≡ false → faced h m ≡ unread h m
unfolding faced
passed_over h m e = rw e

face_not_255 : (c : Call) (m : Lent) → (frame c m).reply.refusal ≢ 255
unfolding frame
face_not_255 c m e = call_never_255 c (lengths_of c m) e

exactly : (h : Handed) (m : Lent) → (faced h m).number ≡ 255 → is_call h ≡ false
exactly h m e = by (is_call h) refl
  where
    by : (b : Bool) → is_call h ≡ b → is_call h ≡ false
    by true r = absurd (face_not_255 (call_of h) m (sym (ap (λ l. l.number) (read h m r)) ∙ e))
    by false r = r

unchanged : (h : Handed) (m : Lent) → (faced h m).number ≢ 0 → ((faced h m).device ≡ h.device) × ((faced h m).lent ≡ m)
unchanged h m n = by (is_call h) refl
  where
    by : (b : Bool) → is_call h ≡ b → ((faced h m).device ≡ h.device) × ((faced h m).lent ≡ m)
    by true r =
        let alone = refused_leaves (call_of h) m (λ z. n (ap (λ l. l.number) (read h m r) ∙ z)) in (
          ap (λ l. l.device) (read h m r) ∙ (ap (λ (d : Device). as_lent h.device (packed d)) alone.0 ∙ written_back h.device (record_read h r)),
          ap (λ l. l.lent) (read h m r) ∙ alone.1,
        )
    by false r = (ap (λ l. l.device) (passed_over h m r), ap (λ l. l.lent) (passed_over h m r))

-- the words of a record, as many as are lent for it, stand for it
back : (h : Handed) (m : Lent) → is_call h ≡ true → (is_record (faced h m).device ≡ true) × (device_of (faced h m).device ≡ (frame (call_of h) m).reply.device)
back h m r =
    let d = (frame (call_of h) m).reply.device in
    let whole : as_lent h.device (packed d) ≡ packed d = record_whole h.device d (enough h r).0 in
    rw (read h m r, whole) (is_record_lem d, same_record d)

pub promises : Promises
promises =
    record {
      as_the_part = read;
      unread_exactly = λ h m. (passed_over h m, exactly h m);
      comes_back = back;
      refused_changes_nothing = unchanged;
    }
