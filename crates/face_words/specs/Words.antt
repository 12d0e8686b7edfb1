-- How the record, the settings, the signals and the answer of a call travel: each as a list of 64-bit words. Assumes nothing.
use Rattle.std.specs.Prelude.{ℕ, suc, Bool, cond, ◌&&◌, List, [], ◌∷◌, leb, ltb, eqb, length, get_or, take}
use Prim.Native.String.{String}
use lib.Text.{eqt}
use Rattle.settings.specs.declared.Settings.{Settings}
use Rattle.device.specs.declared.Device.{Device}
use Rattle.device.specs.declared.Mode.{Mode}
use Rattle.memories.specs.declared.Memory.{Memory}
use Rattle.calls.specs.declared.Signals.{Signals}
use Rattle.part.specs.Frame.{Reply}

-- So many words are lent: at least those of the oldest caller, and no more than there are. A word that is not lent reads as 0, and is not
-- written.
abbrev pub is_lent : ℕ → ℕ → ℕ → Bool
is_lent oldest all long = leb oldest long && leb long all

-- how many words the record has, the settings, the signals and the answer; and how many of the signals and of the
-- answer the oldest caller knows of
abbrev pub record_words : ℕ
record_words = 7

abbrev pub settings_words : ℕ
settings_words = 8

abbrev pub signals_words : ℕ
signals_words = 4

abbrev pub first_signals : ℕ
first_signals = 3

abbrev pub answer_words : ℕ
answer_words = 4

abbrev pub first_answer : ℕ
first_answer = 3

abbrev pub record_lent : ℕ → Bool
record_lent long = is_lent record_words record_words long

abbrev pub settings_lent : ℕ → Bool
settings_lent long = is_lent settings_words settings_words long

abbrev pub signals_lent : ℕ → Bool
signals_lent long = is_lent first_signals signals_words long

abbrev pub answer_lent : ℕ → Bool
answer_lent long = is_lent first_answer answer_words long

-- as many of the new words as are lent
abbrev pub as_lent : List ℕ → List ℕ → List ℕ
as_lent lent new = take (length lent) new

-- a flag is 1 or 0
abbrev pub word_of : Bool → ℕ
word_of flag = cond flag 1 0

abbrev pub is_flag : ℕ → Bool
is_flag word = ltb word 2

abbrev pub flag_of : ℕ → Bool
flag_of word = eqb word 1

-- a mode is 0, 1 or 2
abbrev pub mode_number : Mode → ℕ
mode_number Mode.Awake = 0
mode_number Mode.Deep = 1
mode_number Mode.UltraDeep = 2

abbrev pub is_mode : ℕ → Bool
is_mode word = ltb word 3

abbrev pub mode_of : ℕ → Mode
mode_of word = cond (eqb word 0) Mode.Awake (cond (eqb word 1) Mode.Deep Mode.UltraDeep)

-- a memory is 0, the array, or 1, the register
abbrev pub memory_of : ℕ → Memory
memory_of word = cond (eqb word 0) Memory.Array Memory.Register

-- the record: BPL, BP0, WEL, RSTE, the OTP-used mark, the mode, the busy ticks left
abbrev pub packed : Device → List ℕ
packed d =
    word_of d.bpl ∷ word_of d.bp0 ∷ word_of d.wel ∷ word_of d.rste ∷ word_of d.used ∷ mode_number d.mode ∷ d.busy ∷ []

unfoldable pub is_record : List ℕ → Bool
is_record ws =
    record_lent (length ws) && is_flag (get_or ws 0 0) && is_flag (get_or ws 1 0) && is_flag (get_or ws 2 0) && is_flag (get_or ws 3 0) && is_flag (get_or ws 4 0) &&
    is_mode (get_or ws 5 0)

unfoldable pub device_of : List ℕ → Device
device_of ws =
    record {
      bpl = flag_of (get_or ws 0 0);
      bp0 = flag_of (get_or ws 1 0);
      wel = flag_of (get_or ws 2 0);
      rste = flag_of (get_or ws 3 0);
      used = flag_of (get_or ws 4 0);
      mode = mode_of (get_or ws 5 0);
      busy = get_or ws 6 0;
    }

-- the settings: the durations in document 01's order
abbrev pub is_settings : List ℕ → Bool
is_settings ws = settings_lent (length ws)

unfoldable pub settings_of : List ℕ → Settings
settings_of ws =
    record {
      ticks =
          get_or ws 0 0 ∷ get_or ws 1 0 ∷ get_or ws 2 0 ∷ get_or ws 3 0 ∷ get_or ws 4 0 ∷ get_or ws 5 0 ∷ get_or ws 6 0 ∷ get_or ws 7 0 ∷ [];
    }

-- the signals: the bits clocked, WP's level, the ticks elapsed, and the ticks per byte position, of which the oldest caller
-- knows nothing
abbrev pub is_signals : List ℕ → Bool
is_signals ws = signals_lent (length ws) && is_flag (get_or ws 1 0)

abbrev pub signals_of : List ℕ → Signals
signals_of ws = record { bits = get_or ws 0 0; wp = flag_of (get_or ws 1 0); elapsed = get_or ws 2 0; pace = get_or ws 3 0 }

-- an outcome is its word's place among the words, in document 01's order
unfoldable pub place_of : String → List String → ℕ
place_of word [] = 0
place_of word (w ∷ ws) = cond (eqt word w) 0 (suc (place_of word ws))

unfoldable pub outcome_number : String → ℕ
unfolding place_of
outcome_number word = place_of word ("nothing" ∷ "read" ∷ "control" ∷ "aborted" ∷ "begun" ∷ [])

-- and so is a cause, after none, in the request's order
unfoldable pub cause_place : String → ℕ
unfolding place_of
cause_place words =
    place_of words
    ("none" ∷ "too few bits" ∷ "asleep" ∷ "busy" ∷ "unknown opcode" ∷ "latch clear" ∷
    "reset not enabled or not confirmed" ∷ "off boundary" ∷ "incomplete" ∷ "protected" ∷ "locked" ∷
    "already programmed" ∷ "already awake" ∷ [])

-- the answer: the outcome, the first driven position, how many are driven, and the cause, of which the oldest caller
-- knows nothing
abbrev pub answer_of : Reply → List ℕ
answer_of reply = outcome_number reply.outcome ∷ reply.first ∷ reply.driven ∷ cause_place reply.cause ∷ []

-- 0, or 255 for words that stand for nothing
abbrev pub number_if : Bool → ℕ
number_if right = cond right 0 255

-- what is written there, if the words stand for something
abbrev pub written_if : Bool → List ℕ → List ℕ → List ℕ
written_if right new old = cond right (as_lent old new) old
