-- What the ledger promises of any series of calls, refused calls and resets among them: whose ticks are whose. To read
-- it: es are entries, d is a record, l a ledger, bs are bookings, t and u are what stands before or after them. Assumes
-- nothing.
use Rattle.std.specs.Prelude.{ℕ, ◌+◌, ◌<◌, ◌≤◌, min, max, true, cond, List, ◌∷◌, ◌++◌, map, ◌≢◌, ◌≡◌, length, get_or}
use lib.Text.{eqt}
use Rattle.device.specs.declared.Device.{Device}
use Rattle.calls.specs.declared.Signals.{Signals}
use Rattle.part.specs.Frame.{Call, Reply, number_for, reply_of}
use Rattle.operations.specs.Operations.{Operation}
use Rattle.series.specs.Turns as turns
use Rattle.series.specs.Turns.{Turn, call_of, lengths_of}
use Rattle.series.specs.Series as series
use Rattle.operations.specs.Bytes.{since, bytes_at, and_all, start_at}
use Rattle.ledger.specs.Ledger.{Ledger, empty, shut, booked, closed}
use Rattle.ledger_frame.specs.Frame as through
use Rattle.ledger_frame.specs.Frame.{Result}
use Rattle.ledger_series.specs.Entries.{Entry, Done, entry, reply_to, calls, last_record, last_ledger, turns_through}
use Rattle.ledger_series.specs.Operations.{passed, operations, bills, sum, largest, busy_ticks}
use Rattle.ledger_series.specs.Ledgers.{Whole, Right, rest, total_after, number_after, most_after, nobodys}
use Rattle.ledger_series.specs.Series.{Booking, Desk, Made, entries_of, left, results, end, steps_through}
use Rattle.ledger_series.specs.Series.{results_through, made_of, Ran}

-- what each operation of an account is billed in a series from an empty ledger
abbrev pub bills_in : List Entry → Device → ℕ → List ℕ
bills_in es d account = bills account (operations (calls es d empty))

-- the answers of calls
abbrev pub answers_of : List Done → List Reply
answers_of cs = map (λ (c : Done). c.reply) cs

-- the operations on the array that took effect in a series through the ledger: of the turns that it let through
abbrev pub effects : List Entry → Device → Ledger → List Operation
effects es d l = turns.operations (turns_through es d l) d

pub record Promises : Type 0 where
  -- One call after the other: each is given the record and the ledger that the last one left, with its own account; it
  -- answers and books by them. Shut out by the ledger it is no turn of the part's.
  pub one_after_the_other : (e : Entry) (es : List Entry) (d : Device) (l : Ledger) (c : Call) (r : Reply) (k : Ledger)
      → c ≡ call_of e.turn d
      → r ≡ through.replied c (lengths_of e.turn) e.account l → k
      ≡ booked d.busy e.turn.signals r e.account l
      → (calls (e ∷ es) d l ≡ record { account = e.account; call = c; reply = r } ∷ calls es r.device k)
      × (last_record (e ∷ es) d l ≡ last_record es r.device k)
      × (last_ledger (e ∷ es) d l ≡ last_ledger es r.device k)
      × (turns_through (e ∷ es) d l
      ≡ cond (through.shut_out c (lengths_of e.turn) e.account l) (turns_through es r.device k)
      (e.turn ∷ turns_through es r.device k))
  -- On memories each call is a frame through the ledger, on what the last one left;
  pub frame_by_frame : (b : Booking) (bs : List Booking) (t : Desk) (r : Result)
      → r
      ≡ through.frame (call_of b.step.turn t.state.device) (series.lent_to b.step t.state) b.account
      t.ledger
      → (results (b ∷ bs) t ≡ r ∷ results bs (left r t)) × (end (b ∷ bs) t ≡ end bs (left r t))
  -- and a run of the code is a call that meets its contract, and a run on what it left.
  pub call_by_call : (b : Booking) (bs : List Booking) (t u : Desk) (a : Made) (rest : List Made)
      → Ran (b ∷ bs) t (a ∷ rest) u
      → through.Meets (call_of b.step.turn t.state.device) (series.lent_to b.step t.state) b.account
      t.ledger (reply_of t.state.device a.answer) a.lent a.ledger
      × Ran bs (left (made_of a) t) rest u
  -- Refusal 9 is given exactly if no lower one is and the account is over 255, or a total or number of any account is
  -- above the limit.
  pub nine_exactly : (e : Entry) (d : Device) (l : Ledger)
      → ((reply_to e d l).refusal ≡ 9 → (number_for (call_of e.turn d) (lengths_of e.turn) ≡ 0)
      × (shut e.account l ≡ true))
      × (number_for (call_of e.turn d) (lengths_of e.turn) ≡ 0 → shut e.account l ≡ true → (reply_to e d l).refusal
      ≡ 9)
  -- From an empty ledger, wherever the series is cut off: an account's total is what its own operations are billed
  -- together, the most is the largest of these bills, and the number says how many there are. The bill of an operation
  -- is its duration, or fewer ticks, if accepted calls have let fewer pass since its frame, or had when a reset was
  -- carried out.
  pub billed_to_the_beginner : (es : List Entry) (d : Device) (account : ℕ) → account < 256
      → (get_or (last_ledger es d empty).totals account 0 ≡ sum (bills_in es d account))
      × (get_or (last_ledger es d empty).most account 0 ≡ largest (bills_in es d account))
      × (get_or (last_ledger es d empty).numbers account 0 ≡ length (bills_in es d account))
  -- From any ledger whose tables have 256 entries: an account's total is what stood there, the rest of what is running,
  -- if that is its own, and the bills of what it begins; its number is what stood there and how many it begins.
  pub from_any_ledger : (es : List Entry) (d : Device) (l : Ledger) (account : ℕ) → account < 256 → Whole l
      → (get_or (last_ledger es d l).totals account 0 ≡ total_after account l d.busy (calls es d l))
      × (get_or (last_ledger es d l).numbers account 0 ≡ number_after account l (calls es d l))
  -- Its most is what stood there, what the running operation is billed in all, or the largest of the bills, if what it
  -- was billed so far was right at first. Then it stays right; and it is in an empty ledger, and in a closed one.
  pub most_from_any : (es : List Entry) (d : Device) (l : Ledger) (account : ℕ) → account < 256 → Right l d.busy
      → get_or (last_ledger es d l).most account 0 ≡ most_after account l d.busy (calls es d l)
  pub stays_right : (es : List Entry) (d : Device) (l : Ledger) → Right l d.busy
      → Right (last_ledger es d l) (last_record es d l).busy
  pub right_empty : (busy : ℕ) → Right empty busy
  pub right_closed : (l : Ledger) (busy : ℕ) → busy ≤ 60000000 → Right (closed l) busy
  -- The month after a close, wherever it is cut off: what is left of an operation that runs over the border is one bill
  -- of the new month, for the account that began it, and counts in total and most; the number counts what begins in the
  -- month.
  pub next_month : (es : List Entry) (d : Device) (l : Ledger) (account : ℕ) → account < 256 → d.busy ≤ 60000000
      → let cs = calls es d (closed l) in
      (get_or (last_ledger es d (closed l)).totals account 0
      ≡ rest account l.running d.busy (passed cs) + sum (bills account (operations cs)))
      × (get_or (last_ledger es d (closed l)).most account 0
      ≡ max (rest account l.running d.busy (passed cs)) (largest (bills account (operations cs))))
      × (get_or (last_ledger es d (closed l)).numbers account 0 ≡ length (bills account (operations cs)))
  -- The same of the code: whatever ran the series from an empty ledger left these tables.
  pub billed_by_the_code : (bs : List Booking) (t u : Desk) (cs : List Made) (account : ℕ) → Ran bs t cs u → t.ledger
      ≡ empty → account < 256
      → (get_or u.ledger.totals account 0 ≡ sum (bills_in (entries_of bs) t.state.device account))
      × (get_or u.ledger.most account 0 ≡ largest (bills_in (entries_of bs) t.state.device account))
      × (get_or u.ledger.numbers account 0 ≡ length (bills_in (entries_of bs) t.state.device account))
  -- All totals together are the busy ticks that passed, but for those of the first record, which are billed to nobody.
  pub all_together : (es : List Entry) (d : Device)
      → sum (last_ledger es d empty).totals + min d.busy (passed (calls es d empty)) ≡ busy_ticks (calls es d empty)
  -- From any ledger: what stood there and the busy ticks that passed, but for those of an operation that is nobody's.
  pub all_together_from_any : (es : List Entry) (d : Device) (l : Ledger) → Whole l
      → sum (last_ledger es d l).totals + nobodys l d.busy (calls es d l)
      ≡ sum l.totals + busy_ticks (calls es d l)
  -- Whoever polls: a call that begins nothing may be another account's, and nothing of the ledger or the record is
  -- different.
  pub whoever_polls : (before after : List Entry) (turn : Turn) (account other : ℕ) (d : Device) (l : Ledger)
      → account < 256 → other < 256
      → (reply_to (entry turn account) (last_record before d l) (last_ledger before d l)).outcome ≢ "begun"
      → (last_ledger (before ++ entry turn account ∷ after) d l ≡ last_ledger (before ++ entry turn other ∷ after) d l)
      × (last_record (before ++ entry turn account ∷ after) d l ≡ last_record (before ++ entry turn other ∷ after) d l)
  -- A refused call, for whatever number, changes neither: without it the series ends with the same ledger and record.
  pub refused_changes_nothing : (before after : List Entry) (e : Entry) (d : Device) (l : Ledger)
      → (reply_to e (last_record before d l) (last_ledger before d l)).refusal ≢ 0
      → (last_ledger (before ++ e ∷ after) d l ≡ last_ledger (before ++ after) d l)
      × (last_record (before ++ e ∷ after) d l ≡ last_record (before ++ after) d l)
  -- The ledger reads of the outcome whether it is begun, and nothing else: no cause, and nothing of what was driven or
  -- covered.
  pub begun_alone : (busy : ℕ) (signals : Signals) (a b : Reply) (account : ℕ) (l : Ledger)
      → a.refusal ≡ b.refusal → eqt a.outcome "begun" ≡ eqt b.outcome "begun" → a.device.busy
      ≡ b.device.busy → booked busy signals a account l ≡ booked busy signals b account l
  -- Demand 3, through the ledger. On memories, the calls that the ledger lets through are a series as it stands without
  -- one: what that promises of array and register holds of it.
  pub as_the_part : (bs : List Booking) (t : Desk) → (end bs t).state ≡ series.end (steps_through bs t) t.state
  -- Each of them is answered and leaves its memories as it does there.
  pub answers_as_the_part : (bs : List Booking) (t : Desk) → results_through bs t
      ≡ series.results (steps_through bs t) t.state
  -- Answers, last record, last ledger and the turns let through are computed from the entries, the first record and the
  -- first ledger,
  pub as_computed : (bs : List Booking) (t : Desk)
      → (map (λ (r : Result). r.reply) (results bs t)
      ≡ answers_of (calls (entries_of bs) t.state.device t.ledger))
      × ((end bs t).state.device ≡ last_record (entries_of bs) t.state.device t.ledger)
      × ((end bs t).ledger ≡ last_ledger (entries_of bs) t.state.device t.ledger)
      × (series.turns_of (steps_through bs t) ≡ turns_through (entries_of bs) t.state.device t.ledger)
  -- never from stored bytes: two series with the same entries, first record and first ledger answer and bill alike, and
  -- the same operations take effect.
  pub never_from_stored_bytes : (bs also : List Booking) (t u : Desk) → entries_of bs ≡ entries_of also → t.state.device
      ≡ u.state.device → t.ledger ≡ u.ledger
      → (map (λ (r : Result). r.reply) (results bs t) ≡ map (λ (r : Result). r.reply) (results also u))
      × ((end bs t).ledger ≡ (end also u).ledger)
      × (series.turns_of (steps_through bs t) ≡ series.turns_of (steps_through also u))
  -- Each byte afterwards is the AND of all bytes programmed at it since the last erase that covered it, starting from
  -- FFh, or from its first content if none covered it.
  pub and_since_the_last_erase : (bs : List Booking) (t : Desk) (k : ℕ) → k < length t.state.array
      → get_or (end bs t).state.array k 0
      ≡ and_all (start_at (effects (entries_of bs) t.state.device t.ledger) k (get_or t.state.array k 0))
      (bytes_at (since (effects (entries_of bs) t.state.device t.ledger) k) k)
  -- What the code returns and leaves is what the series says, call by call, and so is the last desk;
  pub as_the_code_does : (bs : List Booking) (t u : Desk) (cs : List Made) → Ran bs t cs u
      → (map made_of cs ≡ results bs t) × (u ≡ end bs t)
  -- and for each series there are answers that meet the contract of the code, so this is no empty promise.
  pub can_be_run : (bs : List Booking) (t : Desk) → (cs : List Made) × Ran bs t cs (end bs t)
