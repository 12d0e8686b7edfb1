-- The face of Intel HEX: what the two functions answer to a caller that has only numbers and memories. Assumes nothing.
use Rattle.std.specs.Prelude.{ℕ, cond, List, [], ◌∷◌, eqb, length}
use Rattle.ihex_write.specs.Writer.{written_of, output_of}
use Rattle.ihex_read.specs.Reader.{reading_of, array_of}

-- what such a call leaves: its number, its word, and the lent memory that may change
pub record Spoken : Type 0 where
  pub number : ℕ
  pub word : List ℕ
  pub memory : List ℕ

abbrev pub spoken : ℕ → List ℕ → List ℕ → Spoken
spoken number word memory = record { number = number; word = word; memory = memory }

-- one word is lent for the answer, which becomes that word; any other number of words is answered with 255, and all is as it was
unfoldable pub answered : List ℕ → Spoken → Spoken → Spoken
answered word answer before = cond (eqb (length word) 1) answer before

-- an array as text: the refusal, how many characters were written, and the lent text
unfoldable pub text_out : List ℕ → List ℕ → List ℕ → Spoken
text_out array text word =
    let w = written_of array (length text) in
    answered word (spoken w.refusal (w.characters ∷ []) (output_of array text)) (spoken 255 word text)

-- a text into an array: the refusal, the place where the faulty record begins, and the lent array
unfoldable pub text_in : List ℕ → List ℕ → List ℕ → Spoken
text_in text array word =
    let r = reading_of text (length array) in
    answered word (spoken r.refusal (r.place ∷ []) (array_of text array)) (spoken 255 word array)
