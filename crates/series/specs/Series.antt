-- The same series on memories: it folds the definition of one frame. Assumes nothing.
use Rattle.std.specs.Prelude.{ℕ, List, map, length, get_or, replicate}
use Rattle.runs.specs.Run as run
use Rattle.cells.specs.Each.{each, stored}
use Rattle.cells.specs.Range.{range}
use Rattle.device.specs.declared.Device.{Device}
use Rattle.part.specs.Frame.{Lent, Result, Came, lent, frame}
use Rattle.part.specs.Frame as part
use Rattle.series.specs.Turns.{Turn, call_of}

-- what the places behind the ends of array, register and output buffer hold
pub record Behind : Type 0 where
  pub array : ℕ → ℕ
  pub register : ℕ → ℕ
  pub output : ℕ → ℕ

-- a call with the buffer that its output goes to, and what lies behind the memories when it is made
pub record Step : Type 0 where
  pub turn : Turn
  pub buffer : List ℕ
  pub behind : Behind

abbrev pub turns_of : List Step → List Turn
turns_of ss = map (λ (s : Step). s.turn) ss

-- what stands between the calls: the record, the array and the register
pub record State : Type 0 where
  pub device : Device
  pub array : List ℕ
  pub register : List ℕ

-- A call is lent n bytes, from the memory's first on; where it has fewer, those behind its end follow, which are not
-- its own.
abbrev pub lent_of : ℕ → List ℕ → (ℕ → ℕ) → List ℕ
lent_of n memory behind = each (λ k x. get_or memory k (behind k)) (replicate n 0)

-- Of the memory's own bytes it holds afterwards what the call left in their places.
abbrev pub returned : List ℕ → List ℕ → List ℕ
returned after memory = each (stored (range 0 (length after)) (λ k. get_or after k 0)) memory

abbrev pub lent_to : Step → State → Lent
lent_to s t =
    lent (lent_of s.turn.array t.array s.behind.array)
    (lent_of s.turn.register t.register s.behind.register)
    (lent_of s.turn.output s.buffer s.behind.output)

-- a call
abbrev pub result_of : Step → State → Result
result_of s t = frame (call_of s.turn t.device) (lent_to s t)

-- what it leaves
abbrev pub left : Result → State → State
left r t =
    record {
      device = r.reply.device;
      array = returned r.lent.array t.array;
      register = returned r.lent.register t.register;
    }

abbrev pub next : Step → State → State
next s t = left (result_of s t) t

-- the results of a series, in order, and what stands at its end
abbrev pub results : List Step → State → List Result
results ss t = run.outputs next result_of ss t

abbrev pub end : List Step → State → State
end ss t = run.end next ss t

-- A call as the code made it: the record that it was handed, which its caller keeps if it is refused; what came of it;
-- and what it left of the memories that it was lent.
pub record Made : Type 0 where
  pub device : Device
  pub answer : Came
  pub lent : Lent

abbrev pub made_of : Made → Result
made_of c = part.result_of c.device c.answer c.lent

-- The code ran the series and left the last state: each call meets the contract of `part::frame` with the record that
-- the call before it returned and the memories that it left.
abbrev pub Ran : List Step → State → List Made → State → Type 0
Ran ss t cs u = run.Ran result_of left made_of ss t cs u
