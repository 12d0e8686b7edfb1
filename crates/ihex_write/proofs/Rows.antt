-- The laws of a row, the lines for 16 bytes: where 64 KiB begin it has two records, elsewhere one. Assumes nothing.
use Prim.Native.Nat.{ℕ, ◌+◌, ◌/◌, ◌%◌, ◌≤◌}
use mathlib.Core.List.{List, [], ◌∷◌, ◌++◌}
use mathlib.Core.Logic.{◌≢◌}
use mathlib.Core.Path.{◌≡◌, sym, ap, ◌∙◌}
use native.Mathlib.Omega.{arith}
use borrow.Author.Tests.{eq-eqb, ne_eqb}
use lib.ListN.{length, take, drop, length-append, length-drop}
use lib.Seq.{sets, length-take-le, append_snoc}
use Rattle.ihex_layout.specs.Layout.{line_feed}
use Rattle.ihex_write.specs.Writer.{upper_line, data_line, lines_at, joined}
use Rattle.ihex_write.proofs.Stores.{Received, one_more}
use Rattle.ihex_write.proofs.Records.{length-line}

-- the line of type 04 and its LF have 16 characters
length-upper : (upper : ℕ) → length (upper_line upper ++ line_feed ∷ []) ≡ 16
length-upper upper = length-line 0 4 (upper / 256 ∷ upper % 256 ∷ [])

module _ (array : List ℕ) (from : ℕ) where
  -- what the row is where 64 KiB begin, and elsewhere
  row_first : from % 65536 ≡ 0 → joined (lines_at array from) ≡ upper_line (from / 65536) ++ line_feed ∷ [] ++ (data_line array from ++ line_feed ∷ [])
  unfolding lines_at joined
  row_first e = rw (eq-eqb (from % 65536) 0 e) (sym (append_snoc (upper_line (from / 65536)) line_feed (data_line array from ++ line_feed ∷ [])))

  row_other : from % 65536 ≢ 0 → joined (lines_at array from) ≡ data_line array from ++ line_feed ∷ []
  unfolding lines_at joined
  row_other e = rw (ne_eqb (from % 65536) 0 e)

  -- its records, stored one behind the other
  pub first_put : (xs ys zs : List ℕ) (at : ℕ) → from % 65536 ≡ 0 → ys ≡ sets xs at (upper_line (from / 65536) ++ line_feed ∷ [])
      → zs ≡ sets ys (at + 16) (data_line array from ++ line_feed ∷ []) → zs ≡ sets xs at (joined (lines_at array from))
  first_put xs ys zs at e y z =
      let r : Received xs at (upper_line (from / 65536) ++ line_feed ∷ []) ys = record { whole = y } in
      (one_more r (at + 16) (data_line array from ++ line_feed ∷ []) z (ap (◌+◌ at) (sym (length-upper (from / 65536))))).whole ∙
      ap (sets xs at) (sym (row_first e))

  pub other_put : (xs ys : List ℕ) (at : ℕ) → from % 65536 ≢ 0 → ys ≡ sets xs at (data_line array from ++ line_feed ∷ [])
      → ys ≡ sets xs at (joined (lines_at array from))
  other_put xs ys at e y = y ∙ ap (sets xs at) (sym (row_other e))

  module _ (inside : from + 16 ≤ length array) where
    -- the line of 16 bytes of data and its LF have 44 characters
    length-data : length (data_line array from ++ line_feed ∷ []) ≡ 44
    length-data =
        omega (arith, length-line (from % 65536) 0 (take 16 (drop from array)), length-take-le 16 (drop from array) (omega (arith, length-drop from array)))

    -- and so has the row, and 16 more where 64 KiB begin
    pub length-first : from % 65536 ≡ 0 → length (joined (lines_at array from)) ≡ 60
    length-first e =
        ap length (row_first e) ∙
        (length-append (upper_line (from / 65536) ++ line_feed ∷ []) (data_line array from ++ line_feed ∷ []) ∙ rw (length-upper (from / 65536), length-data))

    pub length-other : from % 65536 ≢ 0 → length (joined (lines_at array from)) ≡ 44
    length-other e = ap length (row_other e) ∙ length-data
