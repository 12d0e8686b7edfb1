-- `face_words::cause_number` meets its contract: the number is the cause's, and the place of its words. Assumes nothing.
use Rattle.std.proofs.Common.{◌≡◌, refl, sym, ap, ◌∙◌}
use Rattle.std.specs.Prelude.{Option}
use Rattle.judge.specs.declared.Cause.{Cause}
use Rattle.judge.specs.declared.Cause.TheVariants.{TooFewBits, Asleep, Busy, UnknownOpcode, LatchClear}
use Rattle.judge.specs.declared.Cause.TheVariants.{ResetUnconfirmed, OffBoundary, Incomplete, Protected, Locked}
use Rattle.judge.specs.declared.Cause.TheVariants.{AlreadyProgrammed, AlreadyAwake}
use Rattle.judge.specs.Causes.{cause_number, cause_words, number_in, words_in}
use Rattle.face_words.specs.Words.{cause_place, place_of}
use Rattle.face_words.proofs.cause_number.Goals as goal

placed : (cause : Cause) → cause_number cause ≡ cause_place (cause_words cause)
unfolding cause_place place_of
placed TooFewBits = refl
placed Asleep = refl
placed Busy = refl
placed UnknownOpcode = refl
placed LatchClear = refl
placed ResetUnconfirmed = refl
placed OffBoundary = refl
placed Incomplete = refl
placed Protected = refl
placed Locked = refl
placed AlreadyProgrammed = refl
placed AlreadyAwake = refl

pub returns-in-Some-clause-value : goal.returns-in-Some-clause-value
returns-in-Some-clause-value c = c.from.ensures ∙ (c.number.ensures ∙ (placed c.in-Some.cause ∙ ap (λ (cause : Option Cause). cause_place (words_in cause)) (sym c.in-Some.is ∙ c.cause_in.ensures)))

pub returns-in-Some-clause-number : goal.returns-in-Some-clause-number
returns-in-Some-clause-number c = c.from.ensures ∙ (c.number.ensures ∙ ap number_in (sym c.in-Some.is ∙ c.cause_in.ensures))

pub returns-in-None-clause-value : goal.returns-in-None-clause-value
unfolding cause_place place_of
returns-in-None-clause-value c = rw (← c.cause_in.ensures, c.in-None.is)

pub returns-in-None-clause-number : goal.returns-in-None-clause-number
returns-in-None-clause-number c = rw (← c.cause_in.ensures, c.in-None.is)
