-- The same series on memories: it folds the definition of one call through the ledger. Assumes nothing.
use Rattle.std.specs.Prelude.{ℕ, cond, List, [], ◌∷◌, map}
use Rattle.runs.specs.Run as run
use Rattle.device.specs.declared.Device.{Device}
use Rattle.part.specs.Frame as part
use Rattle.part.specs.Frame.{Lent, Came, reply_of}
use Rattle.series.specs.Turns.{call_of, lengths_of}
use Rattle.series.specs.Series as series
use Rattle.series.specs.Series.{Step, State, lent_to}
use Rattle.ledger.specs.Ledger.{Ledger}
use Rattle.ledger_frame.specs.Frame.{Result, shut_out, frame}
use Rattle.ledger_series.specs.Entries.{Entry, entry}

-- a step of a series, and the account that it is for
pub record Booking : Type 0 where
  pub step : Step
  pub account : ℕ

abbrev pub entries_of : List Booking → List Entry
entries_of bs = map (λ (b : Booking). entry b.step.turn b.account) bs

-- what stands between the calls: the record, the array and the register, and the ledger
pub record Desk : Type 0 where
  pub state : State
  pub ledger : Ledger

-- a call, and what it leaves
abbrev pub result_of : Booking → Desk → Result
result_of b t = frame (call_of b.step.turn t.state.device) (lent_to b.step t.state) b.account t.ledger

abbrev pub left : Result → Desk → Desk
left r t = record { state = series.left (record { reply = r.reply; lent = r.lent }) t.state; ledger = r.ledger }

abbrev pub next : Booking → Desk → Desk
next b t = left (result_of b t) t

-- the results of a series, in order, and what stands at its end
abbrev pub results : List Booking → Desk → List Result
results bs t = run.outputs next result_of bs t

abbrev pub end : List Booking → Desk → Desk
end bs t = run.end next bs t

-- the step, unless the ledger shut it out
abbrev pub let_through : Booking → Desk → List Step
let_through b t =
    cond (shut_out (call_of b.step.turn t.state.device) (lengths_of b.step.turn) b.account t.ledger) []
    (b.step ∷ [])

-- the steps that the ledger let through
abbrev pub steps_through : List Booking → Desk → List Step
steps_through bs t = run.gathered next let_through bs t

-- what the part answered and left, unless the ledger shut the call out
abbrev pub result_through : Booking → Desk → List part.Result
result_through b t =
    cond (shut_out (call_of b.step.turn t.state.device) (lengths_of b.step.turn) b.account t.ledger) []
    (record { reply = (result_of b t).reply; lent = (result_of b t).lent } ∷ [])

abbrev pub results_through : List Booking → Desk → List part.Result
results_through bs t = run.gathered next result_through bs t

-- A call as the code made it: the record that it was handed, which its caller keeps if it is refused; what came of it;
-- what it left of the memories that it was lent; and the ledger afterwards.
pub record Made : Type 0 where
  pub device : Device
  pub answer : Came
  pub lent : Lent
  pub ledger : Ledger

abbrev pub made_of : Made → Result
made_of c = record { reply = reply_of c.device c.answer; lent = c.lent; ledger = c.ledger }

-- The code ran the series and left the last desk: each call meets the contract of `ledger_frame::frame_for` with what
-- the call before it left.
abbrev pub Ran : List Booking → Desk → List Made → Desk → Type 0
Ran bs t cs u = run.Ran result_of left made_of bs t cs u
