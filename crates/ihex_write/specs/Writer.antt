-- The writer: for each 64 KiB of the array a record of type 04, then data records of 16 bytes, the end record behind them, one LF after
-- each. Assumes nothing.
use Rattle.std.specs.Prelude.{ℕ, zero, suc, ◌+◌, ◌*◌, ◌/◌, ◌%◌, cond, not, List, [], ◌∷◌, ◌++◌, ltb, eqb, length, take}
use Rattle.std.specs.Prelude.{drop, Result, Ok, Err}
use Rattle.std.proofs.lemmas.List.Edits.{sets}
use Rattle.memories.specs.Sizes.{is_array}
use Rattle.refusals.specs.declared.Refusal.{Refusal}
use Rattle.refusals.specs.Refusals.{number_of}
use Rattle.ihex_layout.specs.Layout.{line_feed, record_line}

-- type 04: the upper part of the addresses that follow
abbrev pub upper_line : ℕ → List ℕ
upper_line upper = record_line 0 4 (upper / 256 ∷ upper % 256 ∷ [])

-- type 00: the 16 bytes from the place `at` on
abbrev pub data_line : List ℕ → ℕ → List ℕ
data_line array at = record_line (at % 65536) 0 (take 16 (drop at array))

-- type 01: the end
abbrev pub end_line : List ℕ
end_line = record_line 0 1 []

-- the lines for 16 bytes: one of type 04 comes first where 64 KiB begin
unfoldable pub lines_at : List ℕ → ℕ → List (List ℕ)
lines_at array at = cond (eqb (at % 65536) 0) (upper_line (at / 65536) ∷ data_line array at ∷ []) (data_line array at ∷ [])

-- the lines for n times 16 bytes from the place `at` on, and the end's
unfoldable pub lines_from : List ℕ → ℕ → ℕ → List (List ℕ)
lines_from array at zero = end_line ∷ []
lines_from array at (suc n) = lines_at array at ++ lines_from array (at + 16) n

abbrev pub lines_of : List ℕ → List (List ℕ)
lines_of array = lines_from array 0 (length array / 16)

-- the lines, with LF after each
unfoldable pub joined : List (List ℕ) → List ℕ
joined [] = []
joined (line ∷ lines) = line ++ line_feed ∷ joined lines

-- the text of an array
unfoldable pub text_of : List ℕ → List ℕ
text_of array = joined (lines_of array)

-- how many characters that is, from the array's size: 44 for 16 bytes, 16 for 64 KiB, 12 for the end
abbrev pub characters_for : ℕ → ℕ
characters_for size = size / 16 * 44 + size / 65536 * 16 + 12

-- what comes back, by the papers' number
pub record Told : Type 0 where
  pub refusal : ℕ
  pub characters : ℕ

abbrev pub written : ℕ → ℕ → Told
written refusal characters = record { refusal = refusal; characters = characters }

-- an answer of the code
abbrev pub told : Result ℕ Refusal → Told
told (Ok characters) = written 0 characters
told (Err refusal) = written (number_of refusal) 0

-- the answer: why nothing is written, or how many characters are
unfoldable pub written_of : List ℕ → ℕ → Told
written_of array room =
    cond (not (is_array (length array))) (written 18 0)
    (cond (ltb room (length (text_of array))) (written 17 0)
    (written 0 (length (text_of array))))

-- the lent output afterwards: the text from its first character on, or what it was
unfoldable pub output_of : List ℕ → List ℕ → List ℕ
output_of array output = cond (eqb (written_of array (length output)).refusal 0) (sets output 0 (text_of array)) output
