-- The places that the HEX records of some lines name. Assumes nothing.
use Rattle.std.specs.Prelude.{ℕ, ◌+◌, Bool, false, ◌&&◌, ◌||◌, List, [], ◌∷◌, eqb}
use Rattle.cells.specs.Range.{range}
use Rattle.ihex_layout.specs.Layout.{length_of, kind_of}
use Rattle.ihex_read.specs.Reader.{start_of, upper_behind}

-- the upper part of the addresses after some lines
unfoldable pub uppers_after : ℕ → List (List ℕ) → ℕ
uppers_after upper [] = upper
uppers_after upper (line ∷ lines) = uppers_after (upper_behind upper line) lines

-- a line names a place: it is a data record, and the place is among those that its data goes to
unfoldable pub names : ℕ → List ℕ → ℕ → Bool
names upper line k = eqb (kind_of line) 0 && range (start_of upper line) (start_of upper line + length_of line) k

-- one of the lines does, from an upper part on
unfoldable pub any_names : ℕ → List (List ℕ) → ℕ → Bool
any_names upper [] k = false
any_names upper (line ∷ lines) k = names upper line k || any_names (upper_behind upper line) lines k
