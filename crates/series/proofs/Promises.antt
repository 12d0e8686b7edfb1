-- Demand 3 holds. Assumes nothing.
use Prim.Native.Nat.{ℕ, ◌<◌, ◌≤◌}
use Prim.Native.String.{String}
use mathlib.Core.Bool.{Bool, true, false, cond, and-false}
use mathlib.Core.List.{List, [], ◌∷◌, ◌++◌, map, map-append}
use mathlib.Core.Logic.{◌≢◌}
use mathlib.Core.Path.{◌≡◌, refl, sym, ap, ◌∙◌}
use lib.Dec.{eqb}
use lib.ListN.{length, get_or}
use Rattle.runs.specs.Run as run
use Rattle.runs.proofs.Laws.{one_end, one_gathered, one_ran, end_joined, gathered_joined, left_out, end_seen, end_alike, gathered_alike, outputs_alike, as_the_run, can_be_run as run_of}
use Rattle.cells.proofs.Places.{get_or-each, each_same}
use Rattle.opcodes.specs.Rows.{row_of, rows, lookup}
use Rattle.device.specs.declared.Device.{Device}
use Rattle.judge.specs.declared.Action.{Action}
use Rattle.judge.specs.Begins.{changes_array, ready}
use Rattle.device.specs.Device.{awake, unsound}
use Rattle.judge.proofs.Begins.{exactly_when}
use Rattle.judge.proofs.Leaves.{reset_still}
use Rattle.device.proofs.Records.{sound_then}
use Rattle.operations.specs.Operations.{Operation, on_register}
use Rattle.part.specs.Frame.{Reply, Result, facts_of, risen, judged_of, number_for}
use Rattle.part.specs.Frame as part
use Rattle.part.proofs.Answers.{answer_of, some_answer}
use Rattle.series.specs.Turns.{Turn, call_of, lengths_of, reply_to, effect_of, onward, replies, operations, last_record}
use Rattle.series.specs.Series.{Step, State, Made, turns_of, lent_to, result_of, left, next, results, end, made_of}
use Rattle.operations.specs.Bytes.{carried, applied, since, bytes_at, and_all, start_at, through}
use Rattle.series.specs.Promises.{Promises, effects, as_refused}
use Rattle.series.proofs.Lending.{lent_all, returned_all}
use Rattle.operations.proofs.Applied.{applied_each, since_the_last_erase, programs_exchanged, operation_twice}
use Rattle.series.proofs.Turns.{effect_begun, refused_reply, refused_effect, sound_series, each_works}
use Rattle.series.proofs.Steps.{met, reply_is, array_is, register_is, refused_result, refused_left}

abbrev reply_in : Result → Reply
reply_in r = r.reply

abbrev device_in : State → Device
device_in t = t.device

abbrev turn_in : Step → Turn
turn_in s = s.turn

abbrev effect_in : Step → State → List Operation
effect_in s t = effect_of s.turn t.device

going_on : (s : Step) (t : State) → (next s t).device ≡ onward s.turn t.device
going_on s t = ap (λ (r : Reply). r.device) (reply_is s t)

-- a call that meets the contract of the code
made : Step → State → Made
made s t =
    record {
      device = t.device;
      answer = answer_of (call_of s.turn t.device) (part.lengths_of (call_of s.turn t.device) (lent_to s t));
      lent = (result_of s t).lent;
    }

meets : (s : Step) (t : State) → made_of (made s t) ≡ result_of s t
unfolding made
meets s t = some_answer (call_of s.turn t.device) (lent_to s t)

as_computed : (ss : List Step) (t : State)
    → (map reply_in (results ss t) ≡ replies (turns_of ss) t.device) × ((end ss t).device ≡ last_record (turns_of ss) t.device)
as_computed ss t = (
  outputs_alike next onward device_in turn_in going_on reply_in result_of reply_to reply_is ss t,
  end_alike next onward device_in turn_in going_on ss t,
)

as_carried_out : (ss : List Step) (t : State) → (end ss t).array ≡ applied (effects ss t) t.array
unfolding applied
as_carried_out ss t =
    end_seen next carried (λ (t : State). t.array) effect_in array_is ss t ∙
    ap (λ (os : List Operation). applied os t.array) (gathered_alike next onward device_in turn_in going_on effect_in effect_of (λ s t. refl) ss t)

-- two series whose operations leave the same of an array leave the same
alike_in_the_end : (ss also : List Step) (t u : State) (os qs : List Operation) → t.array ≡ u.array → effects ss t
    ≡ os → effects also u ≡ qs
    → applied os t.array ≡ applied qs t.array → (end ss t).array ≡ (end also u).array
alike_in_the_end ss also t u os qs same e f leave =
    as_carried_out ss t ∙
    (rw e (leave ∙ rw same refl) ∙
    (ap (λ (ps : List Operation). applied ps u.array) (sym f) ∙ sym (as_carried_out also u)))

never_from_stored_bytes : (ss also : List Step) (t u : State) → turns_of ss ≡ turns_of also → t.device ≡ u.device
    → (map reply_in (results ss t) ≡ map reply_in (results also u)) × ((end ss t).device ≡ (end also u).device) × (effects ss t ≡ effects also u)
never_from_stored_bytes ss also t u e d = (
  (as_computed ss t).0 ∙ (rw (e, d) refl ∙ sym (as_computed also u).0),
  (as_computed ss t).1 ∙ (rw (e, d) refl ∙ sym (as_computed also u).1),
  rw (e, d),
)

and_since_the_last_erase : (ss : List Step) (t : State) (k : ℕ) → k < length t.array
    → get_or (end ss t).array k 0 ≡ and_all (start_at (effects ss t) k (get_or t.array k 0)) (bytes_at (since (effects ss t) k) k)
and_since_the_last_erase ss t k l =
    ap (λ (xs : List ℕ). get_or xs k 0) (as_carried_out ss t ∙ applied_each (effects ss t) t.array) ∙
    (get_or-each (through (effects ss t)) t.array k 0 l ∙ since_the_last_erase (effects ss t) k (get_or t.array k 0))

-- the operations of two lists of steps joined
pub effects_joined : (ss also : List Step) (t : State) → effects (ss ++ also) t ≡ effects ss t ++ effects also (end ss t)
effects_joined ss also t =
    ap (λ (ts : List Turn). operations ts t.device) (map-append (λ (s : Step). s.turn) ss also) ∙
    (gathered_joined onward effect_of (turns_of ss) (turns_of also) t.device ∙
    ap (λ (d : Device). effects ss t ++ operations (turns_of also) d) (sym (as_computed ss t).1))

-- A refused call in the middle of a series.
module _ (before after : List Step) (s : Step) (t : State) (n : (reply_to s.turn (end before t).device).refusal ≢ 0) where
  abbrev u : State
  u = end before t

  no_effect : effects (s ∷ after) u ≡ effects after u
  unfolding run.gathered
  no_effect =
      ap (λ (os : List Operation). os ++ operations (turns_of after) (reply_to s.turn u.device).device) (refused_effect s.turn u.device n) ∙
      ap (λ (r : Reply). operations (turns_of after) r.device) (refused_reply s.turn u.device n)

  same_operations : effects (before ++ s ∷ after) t ≡ effects (before ++ after) t
  same_operations =
      effects_joined before (s ∷ after) t ∙ (ap (λ (os : List Operation). effects before t ++ os) no_effect ∙ sym (effects_joined before after t))

  same_end : end (before ++ s ∷ after) t ≡ end (before ++ after) t
  same_end = left_out next before after s t (refused_left s u n)

  own_result : results (before ++ s ∷ after) t ≡ results before t ++ as_refused s u ∷ results after u
  unfolding run.gathered
  own_result =
      gathered_joined next (run.one result_of) before (s ∷ after) t ∙
      ap (λ (rs : List Result). results before t ++ rs)
      (ap (λ (r : Result). r ∷ results after (left (result_of s u) u)) (refused_result s u n) ∙
      ap (λ (v : State). as_refused s u ∷ results after v) (refused_left s u n))

-- A call whose opcode is that of a reset.
module _ (s : Step) (t : State) (code : get_or s.turn.input 0 0 ≡ 0xF0) where
  abbrev c : part.Call
  c = call_of s.turn t.device

  still : (judged_of c).action ≡ Action.Still
  unfolding judged_of row_of lookup rows
  still = reset_still (risen c) s.turn.settings (facts_of c) (rw code)

  not_ready : ready (risen c) (facts_of c) ≡ false
  unfolding judged_of
  not_ready = sym (exactly_when (risen c) s.turn.settings (facts_of c)) ∙ ap changes_array still

  reset_effect : effect_of s.turn t.device ≡ []
  reset_effect = rw (not_ready, and-false (eqb (number_for c (lengths_of s.turn)) 0))

  reset_register : (left (result_of s t) t).register ≡ t.register
  unfolding applied
  reset_register = register_is s t ∙ by (eqb (number_for c (lengths_of s.turn)) 0)
    where
      by : (b : Bool) → applied (cond b (on_register (judged_of c).action s.turn.input ∷ []) []) t.register ≡ t.register
      by true = rw still (sym (each_same t.register))
      by false = refl

reset_takes_nothing_back : (before after : List Step) (s : Step) (t : State) → get_or s.turn.input 0 0 ≡ 0xF0
    → ((end (before ++ s ∷ []) t).array ≡ (end before t).array) × ((end (before ++ s ∷ []) t).register ≡ (end before t).register)
    × (effects (before ++ s ∷ after) t ≡ effects before t ++ effects after (end (before ++ s ∷ []) t))
unfolding run.gathered run.end applied
reset_takes_nothing_back before after s t code =
    let u = end before t in
    let there : end (before ++ s ∷ []) t ≡ left (result_of s u) u = end_joined next before (s ∷ []) t in (
      ap (λ (v : State). v.array) there ∙ (array_is s u ∙ ap (λ (os : List Operation). applied os u.array) (reset_effect s u code)),
      ap (λ (v : State). v.register) there ∙ reset_register s u code,
      effects_joined before (s ∷ after) t ∙
          ap (λ (os : List Operation). effects before t ++ os)
          (ap (λ (os : List Operation). os ++ operations (turns_of after) (reply_to s.turn u.device).device) (reset_effect s u code) ∙
          (ap (λ (r : Reply). operations (turns_of after) r.device) (sym (reply_is s u)) ∙ ap (effects after) (sym there))),
    )

reported : (t : Turn) (d : Device) → operations (t ∷ []) d ≢ [] → map (λ (r : Reply). r.outcome) (replies (t ∷ []) d) ≡ "begun" ∷ []
unfolding run.gathered
reported t d n = ap (λ (w : String). w ∷ []) (effect_begun t d (λ e. n (ap (λ (os : List Operation). os ++ []) e)))

sound : (ts : List Turn) (d : Device) → unsound d ≡ false
    → ((last_record ts d).busy ≤ 60000000) × (awake (last_record ts d).mode ≡ false → (last_record ts d).busy ≡ 0)
sound ts d u = let s = sound_then (last_record ts d) (sound_series ts d u) in (s.short, s.idle)

pub promises : Promises
promises =
    record {
      one_after_the_other = λ t ts d c l e f. rw (e, f) (one_gathered onward (run.one reply_to) t ts d, one_end onward t ts d, one_gathered onward effect_of t ts d);
      frame_by_frame = λ s ss t c e. rw e (one_gathered next (run.one result_of) s ss t, one_end next s ss t);
      call_by_call =
          λ s ss t u a rest c e r. let one = one_ran result_of left made_of s ss t u a rest r in
          rw e (met (call_of s.turn t.device) (lent_to s t) a.device a.answer a.lent one.0, one.1);
      lent_whole =
          λ s t a b o. rw (lent_all s.turn.array t.array s.behind.array a, lent_all s.turn.register t.register s.behind.register b, lent_all s.turn.output s.buffer s.behind.output o);
      left_whole = λ r t a b. rw (returned_all r.lent.array t.array a, returned_all r.lent.register t.register b);
      as_the_code_does = as_the_run result_of left made_of;
      can_be_run = λ ss t. (_, run_of result_of left made_of made meets ss t);
      as_computed = as_computed;
      never_from_stored_bytes = never_from_stored_bytes;
      each_works = each_works;
      each_reported = reported;
      as_carried_out = as_carried_out;
      and_since_the_last_erase = and_since_the_last_erase;
      change_places = programs_exchanged;
      series_change_places =
          λ ss also t u before after between p q same e f. alike_in_the_end ss also t u _ _ same e f
          (programs_exchanged before after between p q t.array);
      twice_is_once = operation_twice;
      series_twice_is_once =
          λ ss also t u before after o same e f. alike_in_the_end ss also t u _ _ same e f
          (operation_twice before after o t.array);
      refused_changes_nothing =
          λ before after s t n.
          (same_operations before after s t n, same_end before after s t n, gathered_joined next (run.one result_of) before after t, own_result before after s t n);
      reset_takes_nothing_back = reset_takes_nothing_back;
      stays_sound = sound;
    }
