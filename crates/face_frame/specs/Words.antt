-- A frame by words: what is handed over, what is left, and that words that stand for nothing are answered with 255 and change nothing.
-- Assumes nothing.
use Rattle.std.specs.Prelude.{ℕ, Bool, cond, ◌&&◌, List, length}
use Rattle.part.specs.Frame.{Call, Lent, Result, call, frame}
use Rattle.face_words.specs.Words.{packed, is_record, device_of, is_settings, settings_of, is_signals, signals_of, answer_lent, as_lent, answer_of}

-- what a frame is handed beside the lent memories: words, and the input bytes
pub record Handed : Type 0 where
  pub device : List ℕ
  pub settings : List ℕ
  pub signals : List ℕ
  pub input : List ℕ
  pub answer : List ℕ

abbrev pub handed : List ℕ → List ℕ → List ℕ → List ℕ → List ℕ → Handed
handed device settings signals input answer = record { device = device; settings = settings; signals = signals; input = input; answer = answer }

-- whether these words stand for a call
abbrev pub is_call : Handed → Bool
is_call h = is_record h.device && is_settings h.settings && is_signals h.signals && answer_lent (length h.answer)

abbrev pub call_of : Handed → Call
call_of h = call (device_of h.device) (settings_of h.settings) h.input (signals_of h.signals)

-- what a frame leaves: its number, the record's words, the answer's words and the lent memories
pub record Left : Type 0 where
  pub number : ℕ
  pub device : List ℕ
  pub answer : List ℕ
  pub lent : Lent

abbrev pub left : ℕ → List ℕ → List ℕ → Lent → Left
left number device answer lent = record { number = number; device = device; answer = answer; lent = lent }

-- the result of the part's frame, as words: as many as are lent
abbrev pub told : Handed → Result → Left
told h result =
    left result.reply.refusal (as_lent h.device (packed result.reply.device)) (as_lent h.answer (answer_of result.reply)) result.lent

-- words that stand for nothing: 255, and all is as it was
abbrev pub unread : Handed → Lent → Left
unread h m = left 255 h.device h.answer m

unfoldable pub faced : Handed → Lent → Left
faced h m = cond (is_call h) (told h (frame (call_of h) m)) (unread h m)
