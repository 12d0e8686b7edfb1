-- The reader: the text's lines, why a line is refused, and what the records do to the array. Everything is judged first. Assumes nothing.
use Rattle.std.specs.Prelude.{ℕ, zero, suc, ◌+◌, ◌-◌, ◌*◌, ◌%◌, Bool, true, cond, not, ◌&&◌, ◌||◌, List, [], ◌∷◌, ltb}
use Rattle.std.specs.Prelude.{eqb, length, get_or, drop, Result, Ok, Err}
use Rattle.cells.specs.Each.{Cell, each, stored}
use Rattle.cells.specs.Range.{range}
use Rattle.memories.specs.Sizes.{is_array}
use Rattle.refusals.specs.Refusals.{number_of}
use Rattle.ihex_read.specs.declared.Fault.{Fault}
use Rattle.ihex_layout.specs.Layout.{colon, line_feed, carriage_return, byte_at, length_of, address_of, kind_of}
use Rattle.ihex_layout.specs.Layout.{data_at, asked, sum_of}

-- one character more at the front of the first line
abbrev pub headed : ℕ → List (List ℕ) → List (List ℕ)
headed c [] = (c ∷ []) ∷ []
headed c (line ∷ lines) = (c ∷ line) ∷ lines

-- the same, unless it belongs to an ending: LF ends a line, and one CR straight before LF is part of that ending
unfoldable pub behind : ℕ → Bool → List (List ℕ) → List (List ℕ)
behind c beforeLF lines = cond (eqb c line_feed) ([] ∷ lines) (cond (eqb c carriage_return && beforeLF) lines (headed c lines))

-- the lines of a text, without their endings: a line runs to LF or to the end of the text
unfoldable pub lines_in : List ℕ → List (List ℕ)
lines_in [] = []
lines_in (c ∷ text) = behind c (eqb (get_or text 0 0) line_feed) (lines_in text)

-- the place of the character at which line k begins: straight behind k times LF, or the text's end
unfoldable pub place_of : ℕ → List ℕ → ℕ
place_of zero text = 0
place_of (suc k) [] = 0
place_of (suc k) (c ∷ text) = suc (cond (eqb c line_feed) (place_of k text) (place_of (suc k) text))

-- the line's first n bytes are pairs of digits
unfoldable pub pairs : List ℕ → ℕ → Bool
pairs line zero = true
pairs line (suc n) = pairs line n && ltb (byte_at line n) 256

-- a colon and the pairs of digits that the length asks, no more and no less
unfoldable pub is_whole : List ℕ → Bool
is_whole line = eqb (get_or line 0 0) colon && eqb (length line) (2 * asked line + 1) && pairs line (asked line)

-- 12: malformed; the end record has no data, and type 04 two bytes
abbrev pub malformed : List ℕ → Bool
malformed line =
    not (is_whole line) || ((eqb (kind_of line) 1 && not (eqb (length_of line) 0)) || (eqb (kind_of line) 4 && not (eqb (length_of line) 2)))

-- 13: the bytes do not add up to 0, modulo 256
abbrev pub wrong_sum : List ℕ → Bool
wrong_sum line = not (eqb (sum_of line (asked line) % 256) 0)

-- 14: another type
abbrev pub other_kind : List ℕ → Bool
other_kind line = not (eqb (kind_of line) 0 || eqb (kind_of line) 1 || eqb (kind_of line) 4)

-- where a record's data goes
abbrev pub start_of : ℕ → List ℕ → ℕ
start_of upper line = upper * 65536 + address_of line

-- 15: data past its 64 KiB, or outside the array
abbrev pub outside : ℕ → ℕ → List ℕ → Bool
outside size upper line =
    eqb (kind_of line) 0 && not (eqb (length_of line) 0) && (ltb 65536 (address_of line + length_of line) || ltb size (start_of upper line + length_of line))

-- why a line is refused, the lowest number first; 0 if it is not
unfoldable pub fault_of : ℕ → ℕ → List ℕ → ℕ
fault_of size upper line =
    cond (malformed line) 12
    (cond (wrong_sum line) 13
    (cond (other_kind line) 14
    (cond (outside size upper line) 15
    0)))

-- the upper part of the addresses behind a line
abbrev pub upper_behind : ℕ → List ℕ → ℕ
upper_behind upper line = cond (eqb (kind_of line) 4) (data_at line 0 * 256 + data_at line 1) upper

-- a refusal, and the line that it is about
pub record Verdict : Type 0 where
  pub refusal : ℕ
  pub line : ℕ

abbrev pub verdict : ℕ → ℕ → Verdict
verdict refusal line = record { refusal = refusal; line = line }

-- 16: a line behind the end record
unfoldable pub ended : ℕ → List (List ℕ) → Verdict
ended k [] = verdict 0 0
ended k (line ∷ lines) = verdict 16 k

-- the lines from line k on: the first faulty one decides; 16 if there is no end record
unfoldable pub judged : ℕ → ℕ → ℕ → List (List ℕ) → Verdict
judged size upper k [] = verdict 16 k
judged size upper k (line ∷ lines) =
    cond (eqb (fault_of size upper line) 0)
    (cond (eqb (kind_of line) 1) (ended (suc k) lines) (judged size (upper_behind upper line) (suc k) lines))
    (verdict (fault_of size upper line) k)

-- a data record puts its bytes in their places; the others do nothing to the array
abbrev pub laid : ℕ → List ℕ → Cell
laid start line = stored (range start (start + length_of line)) (λ k. data_at line (k - start))

unfoldable pub obeyed : ℕ → List ℕ → List ℕ → List ℕ
obeyed upper line array = cond (eqb (kind_of line) 0) (each (laid (start_of upper line) line) array) array

-- the array behind the lines: later records win, bytes not named stay
unfoldable pub carried : ℕ → List (List ℕ) → List ℕ → List ℕ
carried upper [] array = array
carried upper (line ∷ lines) array = carried (upper_behind upper line) lines (obeyed upper line array)

-- what comes back, by the papers' number
pub record Told : Type 0 where
  pub refusal : ℕ
  pub place : ℕ

abbrev pub reading : ℕ → ℕ → Told
reading refusal place = record { refusal = refusal; place = place }

-- an answer of the code
abbrev pub told : Result (Unit {0}) Fault → Told
told (Ok tt) = reading 0 0
told (Err fault) = reading (number_of fault.refusal) fault.place

-- the judgement of a whole text, the upper part 0 at first
abbrev pub judged_in : List ℕ → ℕ → Verdict
judged_in text size = judged size 0 0 (lines_in text)

-- the answer: the refusal, and the place where the faulty record begins; 18 before all others
unfoldable pub reading_of : List ℕ → ℕ → Told
reading_of text size = cond (not (is_array size)) (reading 18 0) (reading (judged_in text size).refusal (place_of (judged_in text size).line text))

-- the lent array afterwards
unfoldable pub array_of : List ℕ → List ℕ → List ℕ
array_of text array = cond (eqb (reading_of text (length array)).refusal 0) (carried 0 (lines_in text) array) array

-- For what stands below `read`: the line that begins at a place of the text
abbrev pub first : List (List ℕ) → List ℕ
first [] = []
first (line ∷ lines) = line

abbrev pub line_at : List ℕ → ℕ → List ℕ
line_at text at = first (lines_in (drop at text))

-- and what stands where a line ends: nothing, LF, or CR and LF
unfoldable pub is_end : List ℕ → Bool
is_end [] = true
is_end (c ∷ text) = eqb c line_feed || (eqb c carriage_return && eqb (get_or text 0 0) line_feed)
