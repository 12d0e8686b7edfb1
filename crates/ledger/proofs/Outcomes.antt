-- The outcome that is called begun. Assumes nothing.
use mathlib.Core.Bool.{false}
use mathlib.Core.Path.{◌≡◌, refl}
use mathlib.Core.Logic.{◌≢◌}
use lib.Text.{eqt}
use Rattle.judge.specs.declared.Outcome.{Outcome}
use Rattle.part.specs.Words.{word_of}

-- another outcome is called otherwise
pub not_begun : (o : Outcome) → o ≢ Outcome.Begun → eqt (word_of o) "begun" ≡ false
not_begun (Outcome.Nothing cause) n = refl
not_begun Outcome.Read n = refl
not_begun Outcome.Control n = refl
not_begun (Outcome.Aborted cause) n = refl
not_begun Outcome.Begun n = absurd (n refl)
