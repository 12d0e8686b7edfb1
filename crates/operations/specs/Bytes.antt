-- What a list of operations makes of an array, and of the byte at one of its places. Assumes nothing.
use Rattle.std.specs.Prelude.{ℕ, ◌-◌, Bool, true, false, cond, ◌&&◌, ◌||◌, List, [], ◌∷◌, ◌++◌, length}
use Rattle.std.specs.Int.Bits.{bit_and}
use Rattle.runs.specs.Run as run
use Rattle.cells.specs.Each.{Cell, each}
use Rattle.pages.specs.Page.{aimed_at, last}
use Rattle.cells.specs.Range.{range}
use Rattle.operations.specs.Operations.{Operation, none, program, erase, cell_of}

-- an operation carried out
abbrev pub carried : Operation → List ℕ → List ℕ
carried o xs = each (cell_of o) xs

-- one after the other
unfoldable pub applied : List Operation → List ℕ → List ℕ
unfolding run.end
applied os xs = run.end carried os xs

-- the byte at a place, after all of them
unfoldable pub through : List Operation → Cell
unfolding run.end
through os k x = run.end (λ o x. cell_of o k x) os x

-- an erase that covers the place
abbrev pub erases : Operation → ℕ → Bool
erases none k = false
erases (program size page start sent) k = false
erases (erase from to) k = range from to k

-- one of the operations is an erase that covers the place
unfoldable pub erased_in : List Operation → ℕ → Bool
erased_in [] k = false
erased_in (o ∷ os) k = erases o k || erased_in os k

-- the operations since the last erase that covers the place; all of them, if none does
unfoldable pub since : List Operation → ℕ → List Operation
since [] k = []
since (o ∷ os) k = cond (erased_in (o ∷ os) k) (since os k) (o ∷ os)

-- the byte that an operation programs at the place: the last one of its data that aims there; none, where no data byte
-- aims
abbrev pub byte_of : Operation → ℕ → List ℕ
byte_of none k = []
byte_of (program size page start sent) k =
    cond (aimed_at size page start sent k) (last size start sent (length sent) (k - page) 0xFF ∷ []) []
byte_of (erase from to) k = []

-- all bytes programmed at the place, in order
unfoldable pub bytes_at : List Operation → ℕ → List ℕ
bytes_at [] k = []
bytes_at (o ∷ os) k = byte_of o k ++ bytes_at os k

-- the AND of a byte and of all in a list
unfoldable pub and_all : ℕ → List ℕ → ℕ
unfolding run.end
and_all x bs = run.end (λ b x. bit_and x b) bs x

-- what the place starts from: FFh if an erase covered it, else its first content
abbrev pub start_at : List Operation → ℕ → ℕ → ℕ
start_at os k x = cond (erased_in os k) 0xFF x

-- a program by itself
pub record Program : Type 0 where
  pub size : ℕ
  pub page : ℕ
  pub start : ℕ
  pub sent : List ℕ

abbrev pub program_of : Program → Operation
program_of p = program p.size p.page p.start p.sent

-- a program or an erase
abbrev pub works : Operation → Bool
works none = false
works (program size page start sent) = true
works (erase from to) = true

-- each of the operations is one
unfoldable pub all_work : List Operation → Bool
all_work [] = true
all_work (o ∷ os) = works o && all_work os
