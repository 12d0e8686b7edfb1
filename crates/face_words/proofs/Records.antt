-- Words that stand for a record are that record's, and a record's words stand for it. Assumes nothing.
use Prim.Native.Nat.{ℕ, zero, suc, ◌<◌, ◌+◌}
use mathlib.Core.Bool.{true, ◌&&◌}
use mathlib.Core.List.{List, [], ◌∷◌}
use mathlib.Core.Path.{◌≡◌, refl, sym, ap, ◌∙◌}
use native.Mathlib.Omega.{arith}
use lib.ListN.{length, get_or, take}
use lib.Seq.{take_all}
use Rattle.std.proofs.Common.{rules, tests}
use Rattle.std.specs.List.{between, list_all}
use Rattle.std.proofs.lemmas.List.Folds.{list_all_more}
use Rattle.device.specs.declared.Device.{Device}
use Rattle.face_words.specs.Words.{record_words, settings_words, is_lent, record_lent, as_lent, word_of, is_flag}
use Rattle.face_words.specs.Words.{flag_of, mode_number, is_mode, mode_of, packed, is_record, device_of, is_settings}
use Rattle.face_words.specs.Words.{settings_of}

-- the words of a list from a place on, so many of them
spelled : ℕ → ℕ → List ℕ → List ℕ
spelled zero i ws = []
spelled (suc n) i ws = get_or ws i 0 ∷ spelled n (suc i) ws

behind : (n i w : ℕ) (ws : List ℕ) → spelled n (suc i) (w ∷ ws) ≡ spelled n i ws
unfolding spelled
behind zero i w ws = refl
behind (suc n) i w ws = ap (λ (l : List ℕ). get_or ws i 0 ∷ l) (behind n (suc i) w ws)

-- as many as there are: the list itself
all_spelled : (ws : List ℕ) → spelled (length ws) 0 ws ≡ ws
unfolding spelled
all_spelled [] = refl
all_spelled (w ∷ ws) = ap (λ (l : List ℕ). w ∷ l) (behind (length ws) 0 w ws ∙ all_spelled ws)

spelled_out : (n : ℕ) (ws : List ℕ) → length ws ≡ n → spelled n 0 ws ≡ ws
spelled_out n ws e = rw (← e) (all_spelled ws)

-- a list that no caller may lend in part has its words
pub lent_whole : (all long : ℕ) → is_lent all all long ≡ true → long ≡ all
lent_whole all long e = search (rules, tests)

-- what is written over as many words is written whole
pub written_whole : (lent new : List ℕ) → length new ≡ length lent → as_lent lent new ≡ new
written_whole lent new e = take_all (length lent) new (omega (arith, e))

-- each word of a record is what its place asks for
pub record Right (ws : List ℕ) : Type 0 where
  pub long : record_lent (length ws) ≡ true
  pub bpl : is_flag (get_or ws 0 0) ≡ true
  pub bp0 : is_flag (get_or ws 1 0) ≡ true
  pub wel : is_flag (get_or ws 2 0) ≡ true
  pub rste : is_flag (get_or ws 3 0) ≡ true
  pub used : is_flag (get_or ws 4 0) ≡ true
  pub mode : is_mode (get_or ws 5 0) ≡ true

pub record_right : (ws : List ℕ) → is_record ws ≡ true → Right ws
unfolding is_record
record_right ws e = search (rules, tests)

-- a record's words are five flags and a mode
pub flags_and_mode : (ws : List ℕ) → record_lent (length ws) ≡ true
    → is_record ws ≡ (list_all is_flag (between 0 5 ws) && is_mode (get_or ws 5 0))
unfolding is_record
flags_and_mode ws e = rw (e, more 4 (omega arith), more 3 (omega arith), more 2 (omega arith), more 1 (omega arith), more 0 (omega arith)) refl
  where
    more : (n : ℕ) → n < record_words → list_all is_flag (take (n + 1) ws) ≡ (list_all is_flag (take n ws) && is_flag (get_or ws n 0))
    more n l = list_all_more is_flag ws n 0 (omega (arith, lent_whole record_words (length ws) e))

-- a flag's word is the word of its flag
flag_back : (w : ℕ) → is_flag w ≡ true → word_of (flag_of w) ≡ w
flag_back w e = search (rules, tests)

mode_back : (w : ℕ) → is_mode w ≡ true → mode_number (mode_of w) ≡ w
mode_back w e = search (rules, tests)

-- words that stand for a record are the words of what they stand for
pub same_words : (ws : List ℕ) → is_record ws ≡ true → packed (device_of ws) ≡ ws
unfolding device_of spelled
same_words ws e =
    let r = record_right ws e in
    rw
    (flag_back (get_or ws 0 0) r.bpl, flag_back (get_or ws 1 0) r.bp0, flag_back (get_or ws 2 0) r.wel, flag_back (get_or ws 3 0) r.rste, flag_back (get_or ws 4 0) r.used, mode_back (get_or ws 5 0) r.mode)
    (spelled_out record_words ws (lent_whole record_words (length ws) r.long))

-- a record is written whole
pub record_whole : (lent : List ℕ) (d : Device) → record_lent (length lent) ≡ true → as_lent lent (packed d) ≡ packed d
record_whole lent d e = written_whole lent (packed d) (sym (lent_whole record_words (length lent) e))

-- so a record that is written back leaves its words as they are
pub written_back : (ws : List ℕ) → is_record ws ≡ true → as_lent ws (packed (device_of ws)) ≡ ws
written_back ws e = let same = same_words ws e in written_whole ws (packed (device_of ws)) (ap length same) ∙ same

-- and the eight durations are the eight words
pub same_durations : (ws : List ℕ) → is_settings ws ≡ true → (settings_of ws).ticks ≡ ws
unfolding settings_of spelled
same_durations ws e = spelled_out settings_words ws (lent_whole settings_words (length ws) e)

-- a record's words stand for it
pub is_record_lem : (d : Device) → is_record (packed d) ≡ true
unfolding is_record
is_record_lem d = search (rules, tests)

pub same_record : (d : Device) → device_of (packed d) ≡ d
unfolding device_of
same_record d = search (rules, tests)
