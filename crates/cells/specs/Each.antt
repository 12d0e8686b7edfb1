-- A memory is the list of its bytes. What is done to it is said a byte at a time, as a function of the byte's place and its old
-- value. Assumes nothing.
use Rattle.std.specs.Prelude.{ℕ, suc, Bool, cond, List, [], ◌∷◌}
use Rattle.std.specs.Int.Bits.{bit_and}

-- the new byte, from the place and the old byte
abbrev pub Cell : Type 0
Cell = ℕ → ℕ → ℕ

-- f at each place of xs, whose first byte has the place i
unfoldable pub each_from : ℕ → Cell → List ℕ → List ℕ
each_from i f [] = []
each_from i f (x ∷ xs) = f i x ∷ each_from (suc i) f xs

-- the memory afterwards: f at each of its places
unfoldable pub each : Cell → List ℕ → List ℕ
unfolding each_from
each f xs = each_from 0 f xs

-- f at the places that are covered; the bytes elsewhere stay
unfoldable pub over : (ℕ → Bool) → Cell → Cell
over covers f k x = cond (covers k) (f k x) x

-- the covered bytes are replaced, each by the value at its place
abbrev pub stored : (ℕ → Bool) → (ℕ → ℕ) → Cell
stored covers value = over covers (λ k x. value k)

-- the covered bytes are ANDed, each with the value at its place
abbrev pub anded : (ℕ → Bool) → (ℕ → ℕ) → Cell
anded covers value = over covers (λ k x. bit_and x (value k))
