-- A text that is written row by row: what lies ahead of the loop. Assumes nothing.
use Prim.Native.Nat.{ℕ, suc, ◌+◌, ◌-◌, ◌/◌, ◌%◌, ◌<◌, ◌≤◌}
use mathlib.Core.List.{List, [], ◌∷◌, ◌++◌}
use mathlib.Core.Path.{◌≡◌, refl, sym, ap, ◌∙◌}
use native.Mathlib.Omega.{arith}
use lib.ListN.{length, length-append}
use lib.Seq.{sets, length-sets}
use Rattle.ihex_layout.specs.Layout.{line_feed}
use Rattle.ihex_write.specs.Writer.{end_line, lines_at, lines_from, joined, text_of}
use Rattle.ihex_write.proofs.Stores.{sets_join}
use Rattle.ihex_write.proofs.Records.{length-line}
use Rattle.ihex_write.proofs.Lengths.{joined_append}

-- the rows from a place of the array on, and the end
pub rest : List ℕ → ℕ → List ℕ
rest array from = joined (lines_from array from ((length array - from) / 16))

-- at first it is the whole text
rest_all : (array : List ℕ) → rest array 0 ≡ text_of array
unfolding rest text_of
rest_all array = let e : length array - 0 ≡ length array = omega arith in rw e

-- at the end it is the end's line
rest_none : (array : List ℕ) (from : ℕ) → length array ≤ from → rest array from ≡ end_line ++ line_feed ∷ []
unfolding rest lines_from joined
rest_none array from h = let e : (length array - from) / 16 ≡ 0 = omega arith in rw e

-- in between it is a row and the rest behind it
rest_row : (array : List ℕ) (from : ℕ) → from + 16 ≤ length array → rest array from ≡ joined (lines_at array from) ++ rest array (from + 16)
unfolding rest lines_from
rest_row array from h =
    let e : (length array - from) / 16 ≡ suc ((length array - (from + 16)) / 16) = omega arith in
    rw e (joined_append (lines_at array from) (lines_from array (from + 16) ((length array - (from + 16)) / 16)))

-- A loop that writes the array's text into xs has come to the array's place `from` and the text's place `at`: xs has become ys.
pub record Writing (array xs : List ℕ) (at from : ℕ) (ys : List ℕ) : Type 0 where
  pub inside : from ≤ length array
  pub whole_rows : from % 16 ≡ 0
  pub same_long : length ys ≡ length xs
  pub room : at + length (rest array from) ≤ length xs
  pub ahead : sets ys at (rest array from) ≡ sets xs 0 (text_of array)

-- it begins with all of the text ahead
pub writing : (array xs : List ℕ) → length (text_of array) ≤ length xs → Writing array xs 0 0 xs
writing array xs h =
    record {
      inside = omega arith;
      whole_rows = refl;
      same_long = refl;
      room = rw (rest_all array) (omega arith);
      ahead = rw (rest_all array);
    }

module _ {array xs : List ℕ} {at from : ℕ} {ys : List ℕ} (w : Writing array xs at from ys)
    (whole : length array % 65536 ≡ 0) (more : from < length array) where
  -- the next 16 bytes are the array's
  pub row_inside : from + 16 ≤ length array
  row_inside = omega arith

  -- what lies ahead is the next row and the rest behind it
  split : length (rest array from) ≡ length (joined (lines_at array from)) + length (rest array (from + 16))
  split = ap length (rest_row array from row_inside) ∙ length-append (joined (lines_at array from)) (rest array (from + 16))

  -- there is room for the next row
  pub row_room : at + length (joined (lines_at array from)) ≤ length ys
  row_room = omega (arith, split)

  -- the next row takes it 16 bytes on
  pub writes_on : (next : ℕ) (zs : List ℕ) → next ≡ at + length (joined (lines_at array from)) → zs ≡ sets ys at (joined (lines_at array from))
      → Writing array xs next (from + 16) zs
  writes_on next zs n z =
      record {
        inside = row_inside;
        whole_rows = omega arith;
        same_long = ap length z ∙ (length-sets ys at (joined (lines_at array from)) ∙ w.same_long);
        room = omega (arith, split);
        ahead =
            ap (λ (l : List ℕ). sets l next (rest array (from + 16))) z ∙
            (sets_join ys at next (joined (lines_at array from)) (rest array (from + 16)) n ∙
            (ap (sets ys at) (sym (rest_row array from row_inside)) ∙ w.ahead));
      }

module _ {array xs : List ℕ} {at from : ℕ} {ys : List ℕ} (w : Writing array xs at from ys) (done : length array ≤ from) where
  -- behind the last row there is room for the end's line
  pub end_room : at + 12 ≤ length ys
  end_room = omega (arith, ap length (rest_none array from done), length-line 0 1 [])

  -- and with it the text is whole
  pub ends : (zs : List ℕ) → zs ≡ sets ys at (end_line ++ line_feed ∷ []) → zs ≡ sets xs 0 (text_of array)
  ends zs z = z ∙ (ap (sets ys at) (sym (rest_none array from done)) ∙ w.ahead)
