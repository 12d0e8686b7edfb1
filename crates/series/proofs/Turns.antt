-- The laws of a series as it is computed from its turns: a refused turn, an effect, and the records that it returns.
-- Assumes nothing.
use Prim.Native.Nat.{ℕ}
use mathlib.Core.Bool.{Bool, true, false, false≢true, cond, not, and-eq-true_iff}
use mathlib.Core.List.{List, [], ◌∷◌, ◌++◌}
use mathlib.Core.Logic.{◌≢◌}
use mathlib.Core.Path.{◌≡◌, refl, sym, ap, ◌∙◌}
use native.Mathlib.Decide.{ℕ_discrete}
use borrow.Author.Tests.{eqb-true}
use lib.Dec.{ltb, eqb}
use Rattle.runs.specs.Run as run
use Rattle.runs.proofs.Laws.{kept}
use Rattle.opcodes.specs.declared.Command.{Command}
use Rattle.opcodes.specs.declared.Command.TheVariants.{Unlisted, Reads, Orders, Works}
use Rattle.opcodes.specs.declared.Work.{Work}
use Rattle.opcodes.specs.Rows.{row_of}
use Rattle.device.specs.declared.Device.{Device}
use Rattle.judge.specs.declared.Facts.{Facts}
use Rattle.opcodes.specs.Kinds.{means_array}
use Rattle.judge.specs.Begins.{asks_for, ready}
use Rattle.device.specs.Device.{awake, unsound}
use Rattle.judge.proofs.Begins.{exactly_when}
use Rattle.judge.proofs.Leaves.{as_asked, stays_sound}
use Rattle.device.proofs.Records.{stays_idle, passed_sound}
use Rattle.calls.proofs.Accepting.{Accepting, accepted}
use Rattle.operations.specs.Operations.{Operation, on_array}
use Rattle.part.specs.Words.{word_of}
use Rattle.part.proofs.Answers as answers
use Rattle.part.specs.Frame.{Call, Reply, number_for, timed, risen, facts_of, judged_of, covered_by, answered, refused, replied}
use Rattle.part.specs.Effect.{takes_effect, operation_of}
use Rattle.series.specs.Turns.{Turn, call_of, lengths_of, reply_to, effect_of, onward, operations, last_record}
use Rattle.operations.specs.Bytes.{works, all_work}

-- what an opcode for the array asks for is a program or an erase
asked_works : (c : Command) (size : ℕ) (input : List ℕ) → means_array c ≡ true → works (on_array (asks_for c) size input) ≡ true
asked_works Unlisted size input e = absurd (false≢true e)
asked_works (Reads source) size input e = absurd (false≢true e)
asked_works (Orders order) size input e = absurd (false≢true e)
asked_works (Works Work.Program) size input e = refl
asked_works (Works (Work.Erase region)) size input e = refl
asked_works (Works Work.Otp) size input e = absurd (false≢true e)
asked_works (Works Work.WriteStatus) size input e = absurd (false≢true e)
asked_works (Works Work.WriteStatusTwo) size input e = absurd (false≢true e)

module _ (t : Turn) (d : Device) where
  abbrev number : ℕ
  number = number_for (call_of t d) (lengths_of t)

  -- what comes back carries the number of the refusal
  pub refusal_is : (reply_to t d).refusal ≡ number
  refusal_is = answers.refusal_is (call_of t d) (lengths_of t)

  untrue : (reply_to t d).refusal ≢ 0 → eqb number 0 ≡ false
  untrue = answers.not_accepted (call_of t d) (lengths_of t)

  -- a refused turn hands the record back as it came, and no operation takes effect
  pub refused_reply : (reply_to t d).refusal ≢ 0 → reply_to t d ≡ refused (reply_to t d).refusal d
  unfolding replied
  refused_reply n = rw (refusal_is, untrue n)

  pub refused_effect : (reply_to t d).refusal ≢ 0 → effect_of t d ≡ []
  refused_effect n = rw (untrue n)

  -- an accepted one is judged, and what acceptance tells is known
  pub accepted_reply : (reply_to t d).refusal ≡ 0 → reply_to t d ≡ answered (judged_of (call_of t d)) (covered_by (judged_of (call_of t d)) (call_of t d) (lengths_of t))
  unfolding replied
  accepted_reply e = rw (sym refusal_is ∙ e)

  pub accepted_turn : (reply_to t d).refusal ≡ 0 → Accepting d t.settings t.signals (lengths_of t)
  unfolding number_for
  accepted_turn e = accepted d t.settings t.signals (lengths_of t) (sym refusal_is ∙ e)

  -- an operation takes effect in an accepted turn only
  pub effect_accepted : takes_effect (call_of t d) (lengths_of t) ≡ true → (reply_to t d).refusal ≡ 0
  effect_accepted e = refusal_is ∙ eqb-true number 0 ((and-eq-true_iff (eqb number 0) (ready (risen (call_of t d)) (facts_of (call_of t d)))).0 e).0

  -- and it is a program or an erase
  pub effect_works : all_work (effect_of t d) ≡ true
  unfolding all_work
  effect_works = by (takes_effect (call_of t d) (lengths_of t)) refl
    where
      f : Facts
      f = facts_of (call_of t d)

      means : takes_effect (call_of t d) (lengths_of t) ≡ true → means_array (row_of f.code).command ≡ true
      means e =
          let readied = ((and-eq-true_iff (eqb number 0) _).0 e).1 in
          let whole = ((and-eq-true_iff (not (ltb f.bits 8)) _).0 readied).1 in
          let roused = ((and-eq-true_iff (awake (risen (call_of t d)).mode) _).0 whole).1 in
          let idle = ((and-eq-true_iff (not f.busy) _).0 roused).1 in
          ((and-eq-true_iff (means_array (row_of f.code).command) _).0 idle).0

      by : (b : Bool) → takes_effect (call_of t d) (lengths_of t) ≡ b → all_work (cond b (operation_of (call_of t d) (lengths_of t) ∷ []) []) ≡ true
      by true e = rw (asked_works (row_of f.code).command t.array t.input (means e))
      by false e = refl

  -- which is reported as begun
  pub effect_begun : effect_of t d ≢ [] → (reply_to t d).outcome ≡ "begun"
  unfolding judged_of
  effect_begun n = by (takes_effect (call_of t d) (lengths_of t)) refl n
    where
      c : Call
      c = call_of t d

      begun : takes_effect c (lengths_of t) ≡ true → word_of (judged_of c).outcome ≡ "begun"
      begun e =
          let readied = ((and-eq-true_iff (eqb number 0) (ready (risen c) (facts_of c))).0 e).1 in
          ap word_of (as_asked (risen c) t.settings (facts_of c) (exactly_when (risen c) t.settings (facts_of c) ∙ readied)).1

      by : (b : Bool) → takes_effect c (lengths_of t) ≡ b → cond b (operation_of c (lengths_of t) ∷ []) [] ≢ [] → (reply_to t d).outcome ≡ "begun"
      by true e n = ap (λ (r : Reply). r.outcome) (accepted_reply (effect_accepted e)) ∙ begun e
      by false e n = absurd (n refl)

  -- a turn returns a record that is accepted, if it was given one
  pub sound_turn : unsound d ≡ false → unsound (reply_to t d).device ≡ false
  unfolding judged_of
  sound_turn u = by (ℕ_discrete (reply_to t d).refusal 0)
    where
      judging : Accepting d t.settings t.signals (lengths_of t) → unsound (judged_of (call_of t d)).device ≡ false
      judging a =
          stays_sound (risen (call_of t d)) t.settings (facts_of (call_of t d)) (passed_sound (timed (call_of t d)) _ (passed_sound d t.signals.elapsed u)) a.fair
          (stays_idle (timed (call_of t d)) _)

      by : Dec ((reply_to t d).refusal ≡ 0) → unsound (reply_to t d).device ≡ false
      by (yes e) = rw (accepted_reply e) (judging (accepted_turn e))
      by (no n) = rw (refused_reply n) u

-- and so does a series
pub sound_series : (ts : List Turn) (d : Device) → unsound d ≡ false → unsound (last_record ts d) ≡ false
sound_series = kept onward (λ (d : Device). unsound d ≡ false) sound_turn

works_joined : (os ps : List Operation) → all_work os ≡ true → all_work ps ≡ true → all_work (os ++ ps) ≡ true
unfolding all_work
works_joined [] ps e f = f
works_joined (o ∷ os) ps e f =
    let w = (and-eq-true_iff (works o) (all_work os)).0 e in
    rw w.0 (works_joined os ps w.1 f)

pub each_works : (ts : List Turn) (d : Device) → all_work (operations ts d) ≡ true
unfolding run.gathered all_work
each_works [] d = refl
each_works (t ∷ ts) d = works_joined (effect_of t d) (operations ts (reply_to t d).device) (effect_works t d) (each_works ts (reply_to t d).device)
