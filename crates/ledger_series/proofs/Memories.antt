-- A series through the ledger on memories: what the ledger lets through is a series of the part, and the rest changes nothing.
-- Assumes nothing.
use Prim.Native.Nat.{ℕ}
use mathlib.Core.Bool.{Bool, true, false, cond}
use mathlib.Core.List.{List, [], ◌∷◌, map}
use mathlib.Core.Path.{◌≡◌, refl, sym, ap, ◌∙◌}
use Rattle.runs.specs.Run as run
use Rattle.runs.proofs.Laws.{gathered_mapped, end_seen, gathered_seen, end_alike, gathered_alike, outputs_alike}
use Rattle.runs.proofs.Laws.{as_the_run, can_be_run as run_of}
use Rattle.std.specs.Prelude.{Ok, Err}
use Rattle.device.specs.declared.Device.{Device}
use Rattle.calls.specs.declared.Lengths.{Lengths}
use Rattle.refusals.specs.declared.Refusal.{Refusal}
use Rattle.refusals.proofs.Numbers.{never_0}
use Rattle.part.specs.Frame as part
use Rattle.part.specs.Frame.{Call, Lent, Reply, Came, refused, reply_of}
use Rattle.part.proofs.Answers.{answer_of, some_answer}
use Rattle.series.specs.Turns.{Turn, call_of, lengths_of}
use Rattle.series.specs.Series as series
use Rattle.series.specs.Series.{Step, lent_to}
use Rattle.series.proofs.Lending.{returned_same}
use Rattle.series.proofs.Steps.{same_lengths}
use Rattle.ledger.specs.Ledger.{Ledger, booked}
use Rattle.ledger_frame.specs.Frame.{Result, Meets, shut_out, replied, frame}
use Rattle.ledger_frame.proofs.Frames.{refused_leaves}
use Rattle.ledger_series.specs.Entries as entries
use Rattle.ledger_series.specs.Entries.{Entry, Done, Books, entry, books, reply_to, ledger_by, calls, last_record}
use Rattle.ledger_series.specs.Entries.{last_ledger, turns_through}
use Rattle.ledger_series.specs.Series.{Booking, Desk, Made, entries_of, result_of, left, next, results, end}
use Rattle.ledger_series.specs.Series.{let_through, steps_through, result_through, results_through, made_of, Ran}
use Rattle.ledger_series.specs.Promises.{answers_of}

abbrev books_of : Desk → Books
books_of t = books t.state.device t.ledger

abbrev entry_of : Booking → Entry
entry_of b = entry b.step.turn b.account

abbrev reply_in : Result → Reply
reply_in r = r.reply

abbrev turn_in : Step → Turn
turn_in s = s.turn

-- What came of a call meets its contract if, with the record that it was handed, it is what the frame returns. From a
-- refused call the frame returns the record of the call, so it was handed that one.
pub met : (c : Call) (m : Lent) (account : ℕ) (l : Ledger) (d : Device) (came : Came) (after : Lent) (kept : Ledger)
    → Meets c m account l (reply_of d came) after kept → Meets c m account l (reply_of c.device came) after kept
met c m account l d (Ok a) after kept e = e
met c m account l d (Err refusal) after kept e =
    ap {B = Result} (λ (d : Device). record { reply = reply_of d (Err refusal); lent = after; ledger = kept })
    (sym same) ∙ e
  where
    same : d ≡ c.device
    same =
        ap (λ (r : Result). r.reply.device) e ∙
        (refused_leaves c m account l (λ z. never_0 refusal (ap (λ (r : Result). r.reply.refusal) e ∙ z))).0

module _ (b : Booking) (t : Desk) where
  abbrev turn : Turn
  turn = b.step.turn

  abbrev c : Call
  c = call_of turn t.state.device

  abbrev m : Lent
  m = lent_to b.step t.state

  abbrev shut_to : Lengths → Bool
  shut_to lengths = shut_out c lengths b.account t.ledger

  -- what comes back is what is computed, and so is the ledger
  reply_through : (result_of b t).reply ≡ reply_to (entry turn b.account) t.state.device t.ledger
  unfolding frame
  reply_through = ap (λ (lengths : Lengths). replied c lengths b.account t.ledger) (same_lengths b.step t.state)

  ledger_through : (result_of b t).ledger ≡ ledger_by (entry turn b.account) t.state.device t.ledger
  unfolding frame
  ledger_through = ap (λ (r : Reply). booked t.state.device.busy turn.signals r b.account t.ledger) reply_through

  -- shut out, the memories and the record are as they were; let through, the part left them
  state_through : (shut : Bool) → shut_to (lengths_of turn) ≡ shut → (left (result_of b t) t).state ≡ cond shut t.state (series.left (series.result_of b.step t.state) t.state)
  unfolding frame replied part.frame
  state_through true e =
      rw (same_lengths b.step t.state, e)
      (rw (returned_same turn.array t.state.array b.step.behind.array, returned_same turn.register t.state.register b.step.behind.register))
  state_through false e = rw (same_lengths b.step t.state, e)

  -- what comes of a call that meets the contract of the code
  came_to : Came
  came_to = cond (shut_to (part.lengths_of c m)) (Err Refusal.Account) (answer_of c (part.lengths_of c m))

  answers : reply_of t.state.device came_to ≡ (result_of b t).reply
  unfolding came_to frame replied part.frame
  answers = by (shut_to (part.lengths_of c m))
    where
      by : (s : Bool) → reply_of t.state.device (cond s (Err Refusal.Account) (answer_of c (part.lengths_of c m)))
          ≡ cond s (refused 9 t.state.device) (part.replied c (part.lengths_of c m))
      by true = refl
      by false = ap (λ (r : part.Result). r.reply) (some_answer c m)

  -- it goes on as it is computed
  goes_on : books_of (next b t) ≡ entries.next (entry_of b) (books_of t)
  goes_on = rw (reply_through, ledger_through)

  -- and the part's memories by the step that is let through, if it is
  state_on : (next b t).state ≡ series.end (let_through b t) t.state
  unfolding run.end
  state_on = state_through (shut_to (lengths_of turn)) refl ∙ by (shut_to (lengths_of turn))
    where
      by : (shut : Bool) → cond shut t.state (series.next b.step t.state) ≡ series.end (cond shut [] (b.step ∷ [])) t.state
      by true = refl
      by false = refl

  -- a call that is let through is answered by the part, and leaves what the part leaves
  result_through_lem : (shut : Bool) → shut_to (lengths_of turn) ≡ shut
      → cond shut [] (record { reply = (result_of b t).reply; lent = (result_of b t).lent } ∷ [])
      ≡ cond shut [] (series.result_of b.step t.state ∷ [])
  unfolding frame replied part.frame
  result_through_lem true e = refl
  result_through_lem false e = rw (same_lengths b.step t.state, e)

  results_on : result_through b t ≡ series.results (let_through b t) t.state
  unfolding run.gathered
  results_on = result_through_lem (shut_to (lengths_of turn)) refl ∙ by (shut_to (lengths_of turn))
    where
      by : (shut : Bool) → cond shut [] (series.result_of b.step t.state ∷ [])
          ≡ series.results (cond shut [] (b.step ∷ [])) t.state
      by true = refl
      by false = refl

  turns_on : map turn_in (let_through b t) ≡ entries.let_through (entry_of b) (books_of t)
  turns_on = by (shut_to (lengths_of turn))
    where
      by : (shut : Bool) → map turn_in (cond shut [] (b.step ∷ [])) ≡ cond shut [] (turn ∷ [])
      by true = refl
      by false = refl

  -- a call that meets the contract of the code
  pub made : Made
  made =
      record {
        device = t.state.device;
        answer = came_to;
        lent = (result_of b t).lent;
        ledger = (result_of b t).ledger;
      }

  pub meets : made_of made ≡ result_of b t
  unfolding made
  meets = ap {B = Result} (λ (r : Reply). record { reply = r; lent = (result_of b t).lent; ledger = (result_of b t).ledger }) answers

pub as_the_part : (bs : List Booking) (t : Desk) → (end bs t).state ≡ series.end (steps_through bs t) t.state
as_the_part = end_seen next series.next (λ (t : Desk). t.state) let_through state_on

pub answers_as_the_part : (bs : List Booking) (t : Desk) → results_through bs t
    ≡ series.results (steps_through bs t) t.state
answers_as_the_part =
    gathered_seen next series.next (λ (t : Desk). t.state) let_through state_on result_through
    (run.one series.result_of) results_on

pub as_computed : (bs : List Booking) (t : Desk)
    → (map reply_in (results bs t) ≡ answers_of (calls (entries_of bs) t.state.device t.ledger))
    × ((end bs t).state.device ≡ last_record (entries_of bs) t.state.device t.ledger)
    × ((end bs t).ledger ≡ last_ledger (entries_of bs) t.state.device t.ledger)
    × (series.turns_of (steps_through bs t) ≡ turns_through (entries_of bs) t.state.device t.ledger)
as_computed bs t =
    let last = end_alike next entries.next books_of entry_of goes_on bs t in (
      outputs_alike next entries.next books_of entry_of goes_on reply_in result_of (λ e v. reply_to e v.device v.ledger) reply_through bs t ∙
          sym (gathered_mapped entries.next (λ (c : Done). c.reply) (run.one entries.done_on) (entries_of bs) (books_of t)),
      ap (λ (v : Books). v.device) last,
      ap (λ (v : Books). v.ledger) last,
      gathered_mapped next turn_in let_through bs t ∙
          gathered_alike next entries.next books_of entry_of goes_on (λ b t. map turn_in (let_through b t)) entries.let_through turns_on bs t,
    )

pub as_the_code_does : (bs : List Booking) (t u : Desk) (cs : List Made) → Ran bs t cs u → (map made_of cs ≡ results bs t) × (u ≡ end bs t)
as_the_code_does = as_the_run result_of left made_of

pub can_be_run : (bs : List Booking) (t : Desk) → (cs : List Made) × Ran bs t cs (end bs t)
can_be_run bs t = (_, run_of result_of left made_of made meets bs t)
