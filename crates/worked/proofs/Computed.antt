-- A row's tests, computed from lengths, frames and operations, without the list of a memory's bytes: definitions alone,
-- so that a row can be tried where no law stands. Assumes nothing.
use Prim.Native.Nat.{ℕ, zero, suc, ◌+◌, ◌^◌}
use mathlib.Core.Bool.{Bool, true, false, cond, ◌&&◌, ◌||◌}
use mathlib.Core.List.{List, [], ◌∷◌, ◌++◌, map}
use lib.Dec.{leb, eqb}
use lib.ListN.{length}
use Rattle.runs.specs.Run as run
use Rattle.cells.specs.Each.{each, stored}
use Rattle.cells.specs.Range.{range}
use Rattle.device.specs.declared.Device.{Device}
use Rattle.operations.specs.Operations.{Operation, none, program, erase}
use Rattle.operations.specs.Bytes.{through}
use Rattle.output.specs.Output.{Store, read_at}
use Rattle.part.specs.Frame.{Call, stands_at, judged_of, number_for}
use Rattle.series.specs.Turns.{call_of, lengths_of, reply_to, done_of, once_of}
use Rattle.series.specs.Series.{Step}
use Rattle.worked.specs.Worked.{Exchange, Came, Row, Piece, Content, steps_of, painted}

-- one place if the range is steady, else what the halves say, which is computed only then
unfoldable pub halved : Bool → Bool → (Unit {0} → Bool) → Bool
halved true one halves = one
halved false one halves = halves tt

-- the test holds at the 2 ^ h places from `low` on
unfoldable pub everywhere : (ℕ → Bool) → (ℕ → ℕ → Bool) → ℕ → ℕ → Bool
unfolding halved
everywhere test steady zero low = test low
everywhere test steady (suc h) low =
    halved (steady low (2 ^ suc h)) (test low)
    (λ u. everywhere test steady h low && everywhere test steady h (low + 2 ^ h))

-- what it held at first, and the operations since then, in order
pub record Told : Type 0 where
  pub content : Content
  pub done : List Operation

abbrev pub told : Content → Told
told content = record { content = content; done = [] }

abbrev pub more : List Operation → Told → Told
more os t = record { content = t.content; done = t.done ++ os }

-- the byte that a place held at first
abbrev pub first_at : Content → ℕ → ℕ
first_at c k = painted c.pieces k c.holds

abbrev pub told_store : Told → Store
told_store t = record { size = t.content.size; at = λ k. through t.done k (first_at t.content k) }

-- Where operations and pieces are steady over the n places from `low` on: no border of theirs lies within.
unfoldable pub apart : ℕ → ℕ → ℕ → ℕ → Bool
apart from to low n = leb to low || leb (low + n) from

unfoldable pub inside : ℕ → ℕ → ℕ → ℕ → Bool
inside from to low n = leb from low && leb (low + n) to

unfoldable pub one_side : ℕ → ℕ → ℕ → ℕ → Bool
one_side from to low n = apart from to low n || inside from to low n

unfoldable pub steady_for : Operation → ℕ → ℕ → Bool
steady_for none low n = true
steady_for (program size page start sent) low n = apart page (page + size) low n
steady_for (erase from to) low n = one_side from to low n

unfoldable pub steady_operations : List Operation → ℕ → ℕ → Bool
steady_operations [] low n = true
steady_operations (o ∷ os) low n = steady_for o low n && steady_operations os low n

-- a piece that rises is steady only outside its range
unfoldable pub steady_piece : ℕ → ℕ → ℕ → ℕ → ℕ → Bool
steady_piece zero from to low n = one_side from to low n
steady_piece (suc step) from to low n = apart from to low n

unfoldable pub steady_pieces : List Piece → ℕ → ℕ → Bool
steady_pieces [] low n = true
steady_pieces (p ∷ ps) low n = steady_piece p.step p.from p.to low n && steady_pieces ps low n

-- of a memory that held this at first the operations leave what the pieces say, at each place below 2 ^ 18
unfoldable pub agrees : List Operation → List Piece → Content → Bool
unfolding everywhere halved steady_for steady_operations steady_piece steady_pieces apart inside one_side through painted
agrees os ps c =
    everywhere (λ k. eqb (through os k (first_at c k)) (painted ps k (first_at c k)))
    (λ low n. steady_operations os low n && (steady_pieces ps low n && steady_pieces c.pieces low n)) 18 0

-- what stands between the calls, told
pub record Scene : Type 0 where
  pub device : Device
  pub array : Told
  pub register : Told

-- what comes back from a step, and the scene afterwards, computed
abbrev pub written : Call → Store → Store → List ℕ → List ℕ
written c array register buffer =
    each
    (stored (range 0 (length c.input))
    (read_at (judged_of c) (stands_at c) c.signals.wp c.signals.bits array register c.input))
    buffer

unfoldable pub came_told : Step → Scene → Came
came_told s t =
    record {
      reply = reply_to s.turn t.device;
      output =
          cond (eqb (number_for (call_of s.turn t.device) (lengths_of s.turn)) 0)
          (written (call_of s.turn t.device) (told_store t.array) (told_store t.register) s.buffer)
          s.buffer;
    }

unfoldable pub next : Step → Scene → Scene
next s t =
    record {
      device = (reply_to s.turn t.device).device;
      array = more (done_of s.turn t.device) t.array;
      register = more (once_of s.turn t.device) t.register;
    }

abbrev pub all_told : List Step → Scene → List Came
all_told ss t = run.outputs next came_told ss t

abbrev pub end_told : List Step → Scene → Scene
end_told ss t = run.end next ss t

abbrev pub scene_of : Row → Scene
scene_of r = record { device = r.device; array = told r.array; register = told r.register }

-- what comes back in a row as it is computed, and as it is wanted
unfoldable pub replies_of : Row → List Came
replies_of r = all_told (steps_of r) (scene_of r)

unfoldable pub wanted_of : Row → List Came
wanted_of r = map (λ (e : Exchange). e.came) r.exchanges

-- a memory has a place and no more than there are, and the operations leave what the pieces say
unfoldable pub fitting_in : Content → List Operation → List Piece → Bool
fitting_in c os ps = leb 1 c.size && (leb c.size 262144 && agrees os ps c)

unfoldable pub fitting : Row → Bool
unfolding fitting_in
fitting r =
    fitting_in r.array (end_told (steps_of r) (scene_of r)).array.done r.array_after &&
    fitting_in r.register (end_told (steps_of r) (scene_of r)).register.done r.register_after

unfoldable pub all_fitting : List Row → Bool
all_fitting [] = true
all_fitting (r ∷ rs) = fitting r && all_fitting rs
