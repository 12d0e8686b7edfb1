-- How long the text of an array is. Assumes nothing.
use Prim.Native.Nat.{ℕ, zero, suc, ◌+◌, ◌*◌, ◌/◌, ◌%◌, ◌≤◌}
use mathlib.Core.List.{List, [], ◌∷◌, ◌++◌, append_assoc}
use mathlib.Core.Path.{◌≡◌, refl, sym, ap, ◌∙◌}
use native.Mathlib.Decide.{ℕ_discrete}
use native.Mathlib.Omega.{arith}
use lib.ListN.{length, length-append}
use Rattle.ihex_layout.specs.Layout.{line_feed}
use Rattle.ihex_write.specs.Writer.{lines_at, lines_from, joined, text_of, characters_for}
use Rattle.ihex_write.proofs.Records.{length-line}
use Rattle.ihex_write.proofs.Rows.{length-first, length-other}

-- lines and more lines, joined
pub joined_append : (lines more : List (List ℕ)) → joined (lines ++ more) ≡ joined lines ++ joined more
unfolding joined
joined_append [] more = refl
joined_append (line ∷ lines) more = rw (joined_append lines more) (sym (append_assoc line (line_feed ∷ joined lines) (joined more)))

-- how many times 64 KiB begin before a place
abbrev begun : ℕ → ℕ
begun at = (at + 65535) / 65536

-- a row has 44 characters, and 16 more where 64 KiB begin
length-row : (array : List ℕ) (at : ℕ) → at % 16 ≡ 0 → at + 16 ≤ length array
    → length (joined (lines_at array at)) + 16 * begun at ≡ 44 + 16 * begun (at + 16)
length-row array at a h = by (ℕ_discrete (at % 65536) 0)
  where
    by : Dec (at % 65536 ≡ 0) → length (joined (lines_at array at)) + 16 * begun at ≡ 44 + 16 * begun (at + 16)
    by (yes e) = omega (arith, length-first array at h e)
    by (no e) = omega (arith, length-other array at h e)

-- so have n rows, and the end's line 12
length_from : (array : List ℕ) (at n : ℕ) → at % 16 ≡ 0 → at + 16 * n ≤ length array
    → length (joined (lines_from array at n)) + 16 * begun at ≡ 44 * n + 16 * begun (at + 16 * n) + 12
unfolding lines_from joined
length_from array at zero a h = omega (arith, length-line 0 1 [])
length_from array at (suc n) a h =
    omega (
      arith,
      ap length (joined_append (lines_at array at) (lines_from array (at + 16) n)) ∙ length-append (joined (lines_at array at)) (joined (lines_from array (at + 16) n)),
      length-row array at a (omega arith),
      length_from array (at + 16) n (omega arith) (omega arith),
    )

-- the size alone says how long the text is
pub text_length : (array : List ℕ) → length array % 65536 ≡ 0 → length (text_of array) ≡ characters_for (length array)
unfolding text_of
text_length array e = omega (arith, length_from array 0 (length array / 16) refl (omega arith))
