-- Refused, nothing is written: neither to the writer's output nor to the reader's array. Assumes nothing.
use Prim.Native.Nat.{ℕ}
use mathlib.Core.List.{List}
use mathlib.Core.Logic.{◌≢◌}
use mathlib.Core.Path.{◌≡◌}
use borrow.Author.Tests.{ne_eqb}
use lib.ListN.{length}
use Rattle.ihex_write.specs.Writer.{written_of, output_of}
use Rattle.ihex_read.specs.Reader.{reading_of, array_of}

-- the writer that refuses leaves the output as it was
pub refused_output : (array output : List ℕ) → (written_of array (length output)).refusal ≢ 0 → output_of array output ≡ output
unfolding output_of
refused_output array output h = rw (ne_eqb (written_of array (length output)).refusal 0 h)

-- the reader that refuses leaves the array as it was
pub refused_array : (text array : List ℕ) → (reading_of text (length array)).refusal ≢ 0 → array_of text array ≡ array
unfolding array_of
refused_array text array h = rw (ne_eqb (reading_of text (length array)).refusal 0 h)
