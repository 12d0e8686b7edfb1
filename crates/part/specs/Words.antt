-- The outcomes, by the paper's words, and the cause that an outcome carries. (The causes' words and numbers are
-- `cause_words` and `cause_number` of `judge`, the refusals' numbers `number_of` of `refusals`.) Assumes nothing.
use Prim.Native.String.{String}
use Rattle.judge.specs.declared.Cause.{Cause}
use Rattle.std.specs.Prelude.{Option, Some, None}
use Rattle.judge.specs.declared.Outcome.{Outcome}

abbrev pub word_of : Outcome → String
word_of (Outcome.Nothing cause) = "nothing"
word_of Outcome.Read = "read"
word_of Outcome.Control = "control"
word_of (Outcome.Aborted cause) = "aborted"
word_of Outcome.Begun = "begun"

abbrev pub cause_in : Outcome → Option Cause
cause_in (Outcome.Nothing cause) = Some cause
cause_in Outcome.Read = None
cause_in Outcome.Control = None
cause_in (Outcome.Aborted cause) = Some cause
cause_in Outcome.Begun = None
