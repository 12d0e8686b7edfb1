-- What a call promises of its cause. Assumes nothing.
use mathlib.Core.Bool.{Bool, true, false, true≢false, not, ◌&&◌, ◌||◌}
use mathlib.Core.Path.{◌≡◌, refl, sym, ap, ◌∙◌}
use lib.Dec.{eqb}
use lib.Text.{eqt}
use Rattle.std.specs.Prelude.{Some, None, is_none}
use Rattle.opcodes.specs.Rows.{row_of}
use Rattle.opcodes.specs.Kinds.{means_array}
use Rattle.opcodes.specs.declared.Order.{Order}
use Rattle.opcodes.specs.declared.Order.TheVariants.{Enable, Disable, DeepPowerDown, UltraDeepPowerDown, Resume, Reset}
use Rattle.opcodes.specs.declared.Work.{Work}
use Rattle.device.specs.declared.Device.{Device}
use Rattle.settings.specs.declared.Settings.{Settings}
use Rattle.judge.specs.declared.Facts.{Facts}
use Rattle.judge.specs.declared.Judged.{Judged}
use Rattle.judge.specs.declared.Cause.{Cause}
use Rattle.judge.specs.declared.Cause.TheVariants.{TooFewBits, Asleep, Busy, UnknownOpcode, LatchClear}
use Rattle.judge.specs.declared.Cause.TheVariants.{ResetUnconfirmed, OffBoundary, Incomplete, Protected, Locked}
use Rattle.judge.specs.declared.Cause.TheVariants.{AlreadyProgrammed, AlreadyAwake}
use Rattle.judge.specs.declared.Outcome.{Outcome}
use Rattle.judge.specs.Causes.{cause_words, words_in, causes, IsFirst, cause_of}
use Rattle.judge.specs.Judging.{ordered, carried, judged}
use Rattle.judge.specs.Bare.{uncaused, bare}
use Rattle.judge.proofs.Causes.{hindered}
use Rattle.judge.proofs.Begins.{no_cause_ready}
use Rattle.judge.proofs.Leaves.{each_answer}
use Rattle.judge.proofs.Bare.{as_before}
use Rattle.calls.proofs.Accepting.{accepted}
use Rattle.part.specs.Words.{word_of, cause_in}
use Rattle.part.specs.Frame.{Call, Lent, lengths_of, number_for, risen, facts_of, judged_of, replied, frame}
use Rattle.part.specs.Cause.{is_stopped, holds_of, cause_for}
use Rattle.part.specs.Effect.{takes_effect}
use Rattle.part.proofs.Answers.{refusal_is}

-- no cause is called none
some_words : (cause : Cause) → eqt (cause_words cause) "none" ≡ false
some_words TooFewBits = refl
some_words Asleep = refl
some_words Busy = refl
some_words UnknownOpcode = refl
some_words LatchClear = refl
some_words ResetUnconfirmed = refl
some_words OffBoundary = refl
some_words Incomplete = refl
some_words Protected = refl
some_words Locked = refl
some_words AlreadyProgrammed = refl
some_words AlreadyAwake = refl

abbrev stopping : Outcome → Bool
stopping o = eqt (word_of o) "nothing" || eqt (word_of o) "aborted"

-- what is nothing or aborted carries the first cause that holds, and all else none
pub record Carries (d : Device) (f : Facts) (o : Outcome) : Type 0 where
  pub first : stopping o ≡ true
      → (cause : Cause) × (cause_in o ≡ Some cause) × (cause_of (row_of f.code) d f ≡ Some cause)
  pub called_none : eqt (words_in (cause_in o)) "none" ≡ not (stopping o)

carries : (d : Device) (s : Settings) (f : Facts) → Carries d f (judged d s f).outcome
carries d s f =
    each_answer d s f (λ (j : Judged). Carries d f j.outcome)
    (λ cause e. record { first = λ t. (cause, refl, e); called_none = some_words cause })
    (λ cause e. record { first = λ t. (cause, refl, e); called_none = some_words cause })
    (λ u. controlled) (λ e. controlled) (λ source e. unstopped Outcome.Read refl refl) (λ order e h. of_order order)
    (λ work e h. of_work work)
  where
    unstopped : (o : Outcome) → stopping o ≡ false → cause_in o ≡ None → Carries d f o
    unstopped o t n = record { first = λ s. absurd (true≢false (sym s ∙ t)); called_none = rw (t, n) }

    controlled : Carries d f Outcome.Control
    controlled = unstopped Outcome.Control refl refl

    begun : Carries d f Outcome.Begun
    begun = unstopped Outcome.Begun refl refl

    of_order : (order : Order) → Carries d f (ordered order d).outcome
    of_order Enable = controlled
    of_order Disable = controlled
    of_order DeepPowerDown = controlled
    of_order UltraDeepPowerDown = controlled
    of_order Resume = controlled
    of_order Reset = controlled

    of_work : (work : Work) → Carries d f (carried work d s f).outcome
    of_work Work.Program = begun
    of_work (Work.Erase region) = begun
    of_work Work.Otp = begun
    of_work Work.WriteStatus = begun
    of_work Work.WriteStatusTwo = controlled

module _ (c : Call) (m : Lent) where
  carrying : Carries (risen c) (facts_of c) (judged_of c).outcome
  unfolding judged_of
  carrying = carries (risen c) c.settings (facts_of c)

  pub first_cause : (frame c m).reply.refusal ≡ 0 → is_stopped (frame c m).reply ≡ true
      → (cause : Cause) × ((frame c m).reply.cause ≡ cause_words cause) × (cause_for c ≡ Some cause) ×
      IsFirst (holds_of c) causes cause
  unfolding frame replied
  first_cause e = rw (sym (refusal_is c (lengths_of c m)) ∙ e) (λ t.
      let (cause, told, first) = carrying.first t in
      (cause, ap words_in told, first, hindered (row_of (facts_of c).code) (risen c) (facts_of c) cause first))

  pub none_exactly : eqt (frame c m).reply.cause "none"
      ≡ not (eqb (frame c m).reply.refusal 0 && is_stopped (frame c m).reply)
  unfolding frame replied
  none_exactly = by (eqb (number_for c (lengths_of c m)) 0) refl
    where
      by : (b : Bool) → eqb (number_for c (lengths_of c m)) 0 ≡ b
          → eqt (replied c (lengths_of c m)).cause "none"
          ≡ not (eqb (replied c (lengths_of c m)).refusal 0 && is_stopped (replied c (lengths_of c m)))
      by true e = rw e carrying.called_none
      by false e = rw e (rw e)

  pub no_cause_exactly : takes_effect c (lengths_of c m)
      ≡ (eqb (number_for c (lengths_of c m)) 0 && (is_none (cause_for c) && means_array (row_of (facts_of c).code).command))
  no_cause_exactly =
      ap (λ (b : Bool). eqb (number_for c (lengths_of c m)) 0 && b)
      (sym (no_cause_ready (risen c) c.settings (facts_of c)))

  pub nothing_else_moved : (frame c m).reply.refusal ≡ 0
      → uncaused (judged_of c) ≡ bare (risen c) c.settings (facts_of c)
  unfolding frame judged_of number_for
  nothing_else_moved e =
      as_before (risen c) c.settings (facts_of c)
      (accepted c.device c.settings c.signals (lengths_of c m) (sym (refusal_is c (lengths_of c m)) ∙ e)).fits
