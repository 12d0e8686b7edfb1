-- The two ways of a call on one word, and what a refusal leaves. Assumes nothing.
use Prim.Native.Nat.{ℕ}
use mathlib.Core.Bool.{Bool, true, false, cond}
use mathlib.Core.List.{List, [], ◌∷◌}
use mathlib.Core.Logic.{◌≢◌}
use mathlib.Core.Path.{◌≡◌, refl}
use native.Mathlib.Omega.{arith}
use borrow.Author.Tests.{eq-eqb, ne_eqb}
use lib.Dec.{eqb}
use lib.ListN.{length, set}
use Rattle.ihex_promises.proofs.Refused.{refused_output, refused_array}
use Rattle.ihex_write.specs.Writer.{written, written_of, output_of}
use Rattle.ihex_read.specs.Reader.{reading, reading_of, array_of}
use Rattle.face_hex.specs.Words.{Spoken, spoken, answered, text_out, text_in}

-- a single word, stored
one_word : (word : List ℕ) (new : ℕ) → length word ≡ 1 → set word 0 new ≡ new ∷ []
one_word [] new e = absurd (omega arith)
one_word (old ∷ []) new e = refl
one_word (old ∷ other ∷ word) new e = absurd (omega arith)

-- one word: it becomes the answer's
answers : (word memory : List ℕ) (number new : ℕ) (before : Spoken) → length word ≡ 1
    → spoken number (set word 0 new) memory ≡ answered word (spoken number (new ∷ []) memory) before
unfolding answered
answers word memory number new before e = rw (one_word word new e, eq-eqb (length word) 1 e)

-- so for a text that was written, or was not, and for one that was read, or was not
pub tells_written : (array text word after : List ℕ) (refusal characters : ℕ) → length word ≡ 1
    → written refusal characters ≡ written_of array (length text) → after ≡ output_of array text
    → spoken refusal (set word 0 characters) after ≡ text_out array text word
unfolding text_out
tells_written array text word after refusal characters e w o = rw (o, ← w) (answers word _ refusal characters _ e)

pub tells_read : (text array word after : List ℕ) (refusal place : ℕ) → length word ≡ 1
    → reading refusal place ≡ reading_of text (length array) → after ≡ array_of text array
    → spoken refusal (set word 0 place) after ≡ text_in text array word
unfolding text_in
tells_read text array word after refusal place e r o = rw (o, ← r) (answers word _ refusal place _ e)

-- any other number of words: all is as it was
pub passes_over : (word : List ℕ) (answer before : Spoken) → (length word ≡ 1 → ⊥) → before ≡ answered word answer before
unfolding answered
passes_over word answer before e = rw (ne_eqb (length word) 1 e)

-- what is kept by the answer is kept either way
kept : (word memory : List ℕ) (answer : Spoken) → (answer.number ≢ 0 → answer.memory ≡ memory)
    → (answered word answer (spoken 255 word memory)).number ≢ 0 → (answered word answer (spoken 255 word memory)).memory ≡ memory
unfolding answered
kept word memory answer h = by (eqb (length word) 1)
  where
    by : (b : Bool) → (cond b answer (spoken 255 word memory)).number ≢ 0 → (cond b answer (spoken 255 word memory)).memory ≡ memory
    by true n = h n
    by false n = refl

pub text_kept : (array text word : List ℕ) → (text_out array text word).number ≢ 0 → (text_out array text word).memory ≡ text
unfolding text_out
text_kept array text word = kept word text _ (refused_output array text)

pub array_kept : (text array word : List ℕ) → (text_in text array word).number ≢ 0 → (text_in text array word).memory ≡ array
unfolding text_in
array_kept text array word = kept word array _ (refused_array text array)
