-- What follows from the contracts of `write` and `read`: the round trip, which HEX record a byte is of, and which texts
-- are alike. Assumes nothing.
use Rattle.std.specs.Prelude.{ℕ, ◌-◌, ◌<◌, ◌≤◌, Bool, true, false, cond, ◌||◌, List, [], ◌∷◌, ◌++◌, map, ◌≢◌, ◌≡◌, eqb}
use Rattle.std.specs.Prelude.{length, get_or, take}
use Rattle.cells.specs.Range.{range}
use Rattle.memories.specs.Sizes.{is_array}
use Rattle.ihex_layout.specs.Layout.{line_feed, carriage_return, data_at}
use Rattle.ihex_write.specs.Writer.{text_of, characters_for, written_of, output_of}
use Rattle.ihex_read.specs.Reader.{lines_in, judged_in, start_of, upper_behind, reading, reading_of, array_of}
use Rattle.ihex_promises.specs.Named.{uppers_after, names, any_names}

-- a content is bytes
abbrev pub Bytes : List ℕ → Type 0
Bytes array = (k : ℕ) → get_or array k 0 < 256

-- a letter in upper case, any other character as it is
abbrev pub upper_case : ℕ → ℕ
upper_case c = cond (range 0x61 0x7B c) (c - 0x20) c

-- the text's lines, in upper case: without their case and without their endings
abbrev pub capitals : List ℕ → List (List ℕ)
capitals text = map (map upper_case) (lines_in text)

-- neither LF nor CR
unfoldable pub plain : List ℕ → Bool
plain [] = true
plain (c ∷ line) = cond (eqb c line_feed || eqb c carriage_return) false (plain line)

pub record Promises : Type 0 where
  -- the text of an array of an allowed size is read without a fault, and gives that array whatever was there before
  pub round_trip : (array before : List ℕ) → Bytes array → is_array (length array) ≡ true → length before ≡ length array
      → (reading_of (text_of array) (length before) ≡ reading 0 0) × (array_of (text_of array) before ≡ array)
  -- so do the characters that the writer leaves in an output of any length, wherever it does not refuse
  pub handed_on : (array output before : List ℕ) → Bytes array → length before ≡ length array
      → (written_of array (length output)).refusal ≡ 0
      → array_of (take (written_of array (length output)).characters (output_of array output)) before ≡ array
  -- the size alone says how long the text is
  pub text_length : (array : List ℕ) → is_array (length array) ≡ true → length (text_of array)
      ≡ characters_for (length array)
  -- what lies behind the text stays
  pub behind : (array output : List ℕ) (k d : ℕ) → (written_of array (length output)).characters ≤ k
      → get_or (output_of array output) k d ≡ get_or output k d
  -- refused, nothing is written
  pub refused_output : (array output : List ℕ) → (written_of array (length output)).refusal ≢ 0 → output_of array output
      ≡ output
  pub refused_array : (text array : List ℕ) → (reading_of text (length array)).refusal ≢ 0 → array_of text array ≡ array
  -- Byte k afterwards is the data byte of the last HEX record that names k,
  pub last_record_wins : (text array : List ℕ) (before after : List (List ℕ)) (line : List ℕ) (k : ℕ)
      → k < length array → (reading_of text (length array)).refusal ≡ 0
      → lines_in text ≡ before ++ line ∷ after → names (uppers_after 0 before) line k ≡ true
      → any_names (upper_behind (uppers_after 0 before) line) after k ≡ false
      → get_or (array_of text array) k 0 ≡ data_at line (k - start_of (uppers_after 0 before) line)
  -- and as it was if none does.
  pub unnamed_stays : (text array : List ℕ) (k : ℕ)
      → any_names 0 (lines_in text) k ≡ false → get_or (array_of text array) k 0 ≡ get_or array k 0
  -- texts whose lines differ only in case are alike: the same refusal about the same line, and the same array
  pub alike : (text other : List ℕ) → capitals text ≡ capitals other → (array : List ℕ)
      → ((reading_of text (length array)).refusal ≡ (reading_of other (length array)).refusal)
      × (judged_in text (length array) ≡ judged_in other (length array))
      × (array_of text array ≡ array_of other array)
  -- texts that differ in case alone get the same answer, place and all
  pub same_place : (text other : List ℕ) → map upper_case text ≡ map upper_case other → (size : ℕ) → reading_of text size
      ≡ reading_of other size
  -- a line ends with LF or with CR LF, and the last ending may be missing: the lines are the same
  pub endings : (line text : List ℕ) → plain line ≡ true
      → (lines_in (line ++ line_feed ∷ text) ≡ line ∷ lines_in text)
      × (lines_in (line ++ carriage_return ∷ line_feed ∷ text) ≡ line ∷ lines_in text)
      × (line ≢ [] → lines_in line ≡ line ∷ [])
