-- Going through a list of inputs one by one, each on the state that the last one left. Assumes nothing.
use Rattle.std.specs.Prelude.{List, [], ◌∷◌, ◌++◌, ◌≡◌}

-- one thing, as the list that an input tells
abbrev pub one : {I S O : Type 0} → (I → S → O) → I → S → List O
one out i s = out i s ∷ []

-- by a step: the state that an input makes of a state
module _ {I S : Type 0} (next : I → S → S) where
  -- the state in the end
  unfoldable pub end : List I → S → S
  end [] s = s
  end (i ∷ is) s = end is (next i s)

  -- all that the inputs tell, in order, each on its own state
  unfoldable pub gathered : {O : Type 0} → (I → S → List O) → List I → S → List O
  gathered tell [] s = []
  gathered tell (i ∷ is) s = tell i s ++ gathered tell is (next i s)

  -- one thing each
  abbrev pub outputs : {O : Type 0} → (I → S → O) → List I → S → List O
  outputs out is s = gathered (one out) is s

-- The code ran them and left the last state: each call came back with the result of its input, on what the call before it left.
module _ {I S O M : Type 0} (result : I → S → O) (left : O → S → S) (made : M → O) where
  unfoldable pub Ran : List I → S → List M → S → Type 0
  Ran [] s [] u = s ≡ u
  Ran [] s (m ∷ ms) u = ⊥
  Ran (i ∷ is) s [] u = ⊥
  Ran (i ∷ is) s (m ∷ ms) u = (made m ≡ result i s) × Ran is (left (made m) s) ms u
