-- The reader's answer, and the array behind it, in the three cases that there are. Assumes nothing.
use Prim.Native.Nat.{ℕ}
use mathlib.Core.Bool.{true, false}
use mathlib.Core.List.{List}
use mathlib.Core.Path.{◌≡◌}
use borrow.Author.Tests.{eq-eqb, ne_eqb}
use lib.ListN.{length}
use Rattle.memories.specs.Sizes.{is_array}
use Rattle.ihex_read.specs.Reader.{lines_in, place_of, carried, reading, judged_in, reading_of, array_of}

-- a size that is not allowed
pub size_refused : (text array : List ℕ) → is_array (length array) ≡ false → (reading 18 0 ≡ reading_of text (length array)) × (array ≡ array_of text array)
unfolding reading_of array_of
size_refused text array e = (rw e, rw e)

-- an allowed size: the judgement is the answer
pub judgement : (text : List ℕ) (size : ℕ) → is_array size ≡ true
    → reading (judged_in text size).refusal (place_of (judged_in text size).line text) ≡ reading_of text size
unfolding reading_of
judgement text size e = rw e

pub text_refused : (text array : List ℕ) → is_array (length array) ≡ true → ((judged_in text (length array)).refusal ≡ 0 → ⊥) → array ≡ array_of text array
unfolding reading_of array_of
text_refused text array e f = rw (e, ne_eqb (judged_in text (length array)).refusal 0 f)

pub text_read : (text array : List ℕ) → is_array (length array) ≡ true → (judged_in text (length array)).refusal ≡ 0
    → carried 0 (lines_in text) array ≡ array_of text array
unfolding reading_of array_of
text_read text array e f = rw (e, eq-eqb (judged_in text (length array)).refusal 0 f)
