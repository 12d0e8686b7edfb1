-- A series of calls through the ledger, each given the record and the ledger that the last one left: what comes back,
-- and what the ledger then says. All of it is computed from the first record, the first ledger, the accounts, and what
-- the turns of a series hold; there is no place for a byte that is stored. Assumes nothing.
use Rattle.std.specs.Prelude.{ℕ, cond, List, [], ◌∷◌}
use Rattle.runs.specs.Run as run
use Rattle.device.specs.declared.Device.{Device}
use Rattle.part.specs.Frame.{Call, Reply}
use Rattle.series.specs.Turns.{Turn, call_of, lengths_of}
use Rattle.ledger_frame.specs.Frame as through
use Rattle.ledger.specs.Ledger.{Ledger, booked}

-- a turn, and the account that it is for
pub record Entry : Type 0 where
  pub turn : Turn
  pub account : ℕ

abbrev pub entry : Turn → ℕ → Entry
entry turn account = record { turn = turn; account = account }

-- what comes back
abbrev pub reply_to : Entry → Device → Ledger → Reply
reply_to e d l = through.replied (call_of e.turn d) (lengths_of e.turn) e.account l

-- the ledger afterwards
abbrev pub ledger_by : Entry → Device → Ledger → Ledger
ledger_by e d l = booked d.busy e.turn.signals (reply_to e d l) e.account l

-- a call as it was made: for whom, what it was handed, and what came back
pub record Done : Type 0 where
  pub account : ℕ
  pub call : Call
  pub reply : Reply

abbrev pub done_of : Entry → Device → Ledger → Done
done_of e d l = record { account = e.account; call = call_of e.turn d; reply = reply_to e d l }

-- what stands between the calls: the record and the ledger
pub record Books : Type 0 where
  pub device : Device
  pub ledger : Ledger

abbrev pub books : Device → Ledger → Books
books d l = record { device = d; ledger = l }

abbrev pub next : Entry → Books → Books
next e b = books (reply_to e b.device b.ledger).device (ledger_by e b.device b.ledger)

-- the turn, unless the ledger shut it out with refusal 9
abbrev pub let_through : Entry → Books → List Turn
let_through e b =
    cond (through.shut_out (call_of e.turn b.device) (lengths_of e.turn) e.account b.ledger) []
    (e.turn ∷ [])

-- a call of a series
abbrev pub done_on : Entry → Books → Done
done_on e b = done_of e b.device b.ledger

-- all of them, in order
abbrev pub calls : List Entry → Device → Ledger → List Done
calls es d l = run.outputs next done_on es (books d l)

-- the last record, and the last ledger
abbrev pub last_record : List Entry → Device → Ledger → Device
last_record es d l = (run.end next es (books d l)).device

abbrev pub last_ledger : List Entry → Device → Ledger → Ledger
last_ledger es d l = (run.end next es (books d l)).ledger

-- the turns that the ledger let through
abbrev pub turns_through : List Entry → Device → Ledger → List Turn
turns_through es d l = run.gathered next let_through es (books d l)
