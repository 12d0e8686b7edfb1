-- What each function that needs no frame answers to a caller that has only numbers and memories. Words that stand for nothing are answered
-- with 255, and then nothing changes. Assumes nothing.
use Rattle.std.specs.Prelude.{ℕ, Bool, ◌&&◌, List, [], ◌∷◌, ltb, length}
use Rattle.settings.specs.Settings.{typical}
use Rattle.device.specs.Device.{fresh}
use Rattle.device.specs.Status.{status_one, status_two}
use Rattle.memories.specs.Look.{start_in, looked_at}
use Rattle.face_words.specs.Words.{is_lent, record_lent, is_flag, flag_of, memory_of, packed, is_record, device_of}

-- 1.3.0: a million for the first number, a thousand for the second
abbrev pub version : ℕ
version = 1005000

-- a fresh record
abbrev pub is_fresh : ℕ → ℕ → ℕ → ℕ → Bool
is_fresh bpl bp0 used long = is_flag bpl && is_flag bp0 && is_flag used && record_lent long

abbrev pub fresh_words : ℕ → ℕ → ℕ → List ℕ
fresh_words bpl bp0 used = packed (fresh (flag_of bpl) (flag_of bp0) (flag_of used))

-- the typical settings
abbrev pub typical_words : List ℕ
typical_words = typical.ticks

-- the two status bytes
abbrev pub is_status : List ℕ → ℕ → ℕ → Bool
is_status ws wp long = is_record ws && is_flag wp && is_lent 2 2 long

abbrev pub status_words : List ℕ → ℕ → List ℕ
status_words ws wp = status_one (device_of ws) (flag_of wp) ∷ status_two (device_of ws) ∷ []

-- a look: where in the chosen memory the view begins, and how long it is
abbrev pub is_look : ℕ → ℕ → Bool
is_look memory long = ltb memory 2 && is_lent 2 2 long

abbrev pub look_words : ℕ → List ℕ → List ℕ → ℕ → ℕ → List ℕ
look_words memory array register address count =
    start_in (memory_of memory) (length array) (length register) address ∷ length (looked_at (memory_of memory) array register address count) ∷ []
