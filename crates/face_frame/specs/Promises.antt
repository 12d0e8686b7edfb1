-- What a frame by words promises. Assumes nothing.
use Rattle.std.specs.Prelude.{true, false, ◌≢◌, ◌≡◌}
use Rattle.part.specs.Frame.{Lent, frame}
use Rattle.face_words.specs.Words.{is_record, device_of}
use Rattle.face_frame.specs.Words.{Handed, is_call, call_of, left, told, faced}

pub record Promises : Type 0 where
  -- words that stand for a call are answered with what the part's frame gives, and nothing else
  pub as_the_part : (h : Handed) (m : Lent) → is_call h ≡ true → faced h m ≡ told h (frame (call_of h) m)
  -- words that stand for nothing are answered with 255, and everything is as it was, the answer's words too; no others are
  pub unread_exactly : (h : Handed) (m : Lent) → (is_call h ≡ false → faced h m ≡ left 255 h.device h.answer m) × ((faced h m).number ≡ 255 → is_call h ≡ false)
  -- the record's words that come back stand for the record that comes back
  pub comes_back : (h : Handed) (m : Lent) → is_call h ≡ true
      → (is_record (faced h m).device ≡ true) × (device_of (faced h m).device ≡ (frame (call_of h) m).reply.device)
  -- a call with a number other than 0 changes neither the record's words nor a lent byte
  pub refused_changes_nothing : (h : Handed) (m : Lent) → (faced h m).number ≢ 0 → ((faced h m).device ≡ h.device) × ((faced h m).lent ≡ m)
