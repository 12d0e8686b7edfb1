-- Each promise of a call, by the law that proves it. Assumes nothing.
use mathlib.Core.Logic.{◌≢◌}
use mathlib.Core.Path.{◌≡◌, ap}
use Rattle.part.specs.Frame.{Call, Lent, lengths_of, number_for, refused, replied, frame}
use Rattle.part.specs.Promises.{Promises}
use Rattle.part.proofs.Answers.{one_answer, answer_of, some_answer, refusal_is, not_accepted}
use Rattle.part.proofs.Effects.{only_then, changed_then, then_always, begun_took_effect, begun_lasts}
use Rattle.part.proofs.Causes.{no_cause_exactly, first_cause, none_exactly, nothing_else_moved}
use Rattle.part.proofs.Busy.{busy_is}
use Rattle.part.proofs.Covered.{outside_stays, empty_exactly}
use Rattle.part.proofs.Frozen.{takes_no_time}

refused_exactly : (c : Call) (m : Lent) → (frame c m).reply.refusal ≡ number_for c (lengths_of c m)
unfolding frame
refused_exactly c m = refusal_is c (lengths_of c m)

refused_leaves : (c : Call) (m : Lent) → (frame c m).reply.refusal ≢ 0
    → frame c m ≡ record { reply = refused (frame c m).reply.refusal c.device; lent = m }
unfolding frame replied
refused_leaves c m n = let e = not_accepted c (lengths_of c m) n in rw e

pub promises : Promises
unfolding frame number_for
promises =
    record {
      one_answer = one_answer;
      some_answer = λ c m. (answer_of c (lengths_of c m), (frame c m).lent, some_answer c m);
      refused_exactly = refused_exactly;
      refused_leaves = refused_leaves;
      never_from_stored_bytes = λ c m n e. ap (replied c) e;
      only_then = only_then;
      changed_then = changed_then;
      then_always = then_always;
      begun_took_effect = begun_took_effect;
      no_cause_exactly = no_cause_exactly;
      first_cause = first_cause;
      none_exactly = none_exactly;
      nothing_else_moved = nothing_else_moved;
      begun_lasts = begun_lasts;
      busy_is = λ c m. busy_is c (lengths_of c m);
      outside_stays = outside_stays;
      empty_exactly = empty_exactly;
      takes_no_time = takes_no_time;
    }
