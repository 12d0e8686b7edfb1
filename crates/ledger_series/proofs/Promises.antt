-- What the ledger promises holds. Assumes nothing.
use Prim.Native.Nat.{ℕ, ◌<◌}
use mathlib.Core.List.{List, map}
use mathlib.Core.Path.{◌≡◌, refl, sym, ap, ◌∙◌}
use lib.ListN.{length, get_or}
use lib.Text.{eqt}
use Rattle.runs.specs.Run as run
use Rattle.runs.proofs.Laws.{one_end, one_gathered, one_ran}
use Rattle.calls.specs.declared.Signals.{Signals}
use Rattle.part.specs.Frame.{Reply}
use Rattle.series.specs.Turns as turns
use Rattle.series.specs.Turns.{Turn, call_of, lengths_of}
use Rattle.series.specs.Series as series
use Rattle.series.specs.Series.{State}
use Rattle.operations.specs.Bytes.{since, bytes_at, and_all, start_at}
use Rattle.series.proofs.Promises as series-proofs
use Rattle.ledger.specs.Ledger.{Ledger, empty, booked}
use Rattle.ledger_frame.specs.Frame.{Result}
use Rattle.ledger_frame.proofs.Frames.{nine_exactly}
use Rattle.ledger_series.specs.Entries.{last_ledger}
use Rattle.ledger_series.specs.Operations.{sum, largest}
use Rattle.ledger_series.specs.Series.{Booking, Desk, Made, entries_of, result_of, left, next, results, end}
use Rattle.ledger_series.specs.Series.{steps_through, made_of, Ran}
use Rattle.ledger_series.specs.Promises.{Promises, bills_in, effects}
use Rattle.ledger_series.proofs.Entries.{one_entry}
use Rattle.ledger_series.proofs.Bills.{right_empty, right_closed, from_empty, from_closed, all_together}
use Rattle.ledger_series.proofs.Folds.{stays_right}
use Rattle.ledger_series.proofs.Totals.{total, number}
use Rattle.ledger_series.proofs.Most.{most}
use Rattle.ledger_series.proofs.Together.{together}
use Rattle.ledger_series.proofs.Polls.{whoever_polls, refused_changes_nothing}
use Rattle.ledger_series.proofs.Memories.{as_the_part, answers_as_the_part, as_computed, as_the_code_does}
use Rattle.ledger_series.proofs.Memories.{can_be_run, met}

never_from_stored_bytes : (bs also : List Booking) (t u : Desk) → entries_of bs ≡ entries_of also → t.state.device ≡ u.state.device → t.ledger ≡ u.ledger
    → (map (λ (r : Result). r.reply) (results bs t) ≡ map (λ (r : Result). r.reply) (results also u)) × ((end bs t).ledger ≡ (end also u).ledger)
    × (series.turns_of (steps_through bs t) ≡ series.turns_of (steps_through also u))
never_from_stored_bytes bs also t u e d l = (
  (as_computed bs t).0 ∙ (rw (e, d, l) refl ∙ sym (as_computed also u).0),
  (as_computed bs t).2 ∙ (rw (e, d, l) refl ∙ sym (as_computed also u).2),
  (as_computed bs t).3 ∙ (rw (e, d, l) refl ∙ sym (as_computed also u).3),
)

and_since_the_last_erase : (bs : List Booking) (t : Desk) (k : ℕ) → k < length t.state.array
    → get_or (end bs t).state.array k 0
    ≡ and_all (start_at (effects (entries_of bs) t.state.device t.ledger) k (get_or t.state.array k 0))
    (bytes_at (since (effects (entries_of bs) t.state.device t.ledger) k) k)
and_since_the_last_erase bs t k low =
    ap (λ (s : State). get_or s.array k 0) (as_the_part bs t) ∙
    ((series-proofs.promises).and_since_the_last_erase (steps_through bs t) t.state k low ∙
    ap (λ (ts : List Turn). let os = turns.operations ts t.state.device in and_all (start_at os k (get_or t.state.array k 0)) (bytes_at (since os k) k))
    (as_computed bs t).3)

billed_by_the_code : (bs : List Booking) (t u : Desk) (cs : List Made) (account : ℕ) → Ran bs t cs u → t.ledger ≡ empty → account < 256
    → (get_or u.ledger.totals account 0 ≡ sum (bills_in (entries_of bs) t.state.device account))
    × (get_or u.ledger.most account 0 ≡ largest (bills_in (entries_of bs) t.state.device account))
    × (get_or u.ledger.numbers account 0 ≡ length (bills_in (entries_of bs) t.state.device account))
billed_by_the_code bs t u cs account r e low =
    let last : u.ledger ≡ last_ledger (entries_of bs) t.state.device empty =
    ap (λ (v : Desk). v.ledger) (as_the_code_does bs t u cs r).1 ∙ ((as_computed bs t).2 ∙ ap (last_ledger (entries_of bs) t.state.device) e) in
    rw last (from_empty (entries_of bs) t.state.device account low)

begun_alone : (busy : ℕ) (signals : Signals) (a b : Reply) (account : ℕ) (l : Ledger) → a.refusal ≡ b.refusal
    → eqt a.outcome "begun" ≡ eqt b.outcome "begun" → a.device.busy ≡ b.device.busy
    → booked busy signals a account l ≡ booked busy signals b account l
unfolding booked
begun_alone busy signals a b account l refusal begun left = rw (refusal, begun, left)

pub promises : Promises
promises =
    record {
      one_after_the_other = λ e es d l c r k p q s. rw (s, q, p) (one_entry e es d l);
      frame_by_frame = λ b bs t r p. rw p (one_gathered next (run.one result_of) b bs t, one_end next b bs t);
      call_by_call =
          λ b bs t u a rest r. let one = one_ran result_of left made_of b bs t u a rest r in (
            met (call_of b.step.turn t.state.device) (series.lent_to b.step t.state) b.account t.ledger a.device
                a.answer a.lent a.ledger one.0,
            one.1,
          );
      nine_exactly = λ e d l. nine_exactly (call_of e.turn d) (lengths_of e.turn) e.account l;
      billed_by_the_code = billed_by_the_code;
      billed_to_the_beginner = from_empty;
      from_any_ledger = λ es d l account low w. (total account es d l low w, number account es d l low w);
      most_from_any = λ es d l account. most account es d l;
      stays_right = stays_right;
      right_empty = right_empty;
      right_closed = right_closed;
      next_month = from_closed;
      all_together = all_together;
      all_together_from_any = together;
      whoever_polls = whoever_polls;
      refused_changes_nothing = refused_changes_nothing;
      begun_alone = begun_alone;
      as_the_part = as_the_part;
      answers_as_the_part = answers_as_the_part;
      as_computed = as_computed;
      never_from_stored_bytes = never_from_stored_bytes;
      and_since_the_last_erase = and_since_the_last_erase;
      as_the_code_does = as_the_code_does;
      can_be_run = can_be_run;
    }
