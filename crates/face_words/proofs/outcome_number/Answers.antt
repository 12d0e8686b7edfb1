-- `face_words::outcome_number` meets its contract: the number is the word's place. Assumes nothing.
use Rattle.std.proofs.Common.{refl}
use Rattle.face_words.specs.Words.{outcome_number, place_of}
use Rattle.face_words.proofs.outcome_number.Goals as goal

pub returns-in-Nothing : goal.returns-in-Nothing
unfolding outcome_number place_of
returns-in-Nothing c = rw c.in-Nothing.is refl

pub returns-in-Read : goal.returns-in-Read
unfolding outcome_number place_of
returns-in-Read c = rw c.in-Read.is refl

pub returns-in-Control : goal.returns-in-Control
unfolding outcome_number place_of
returns-in-Control c = rw c.in-Control.is refl

pub returns-in-Aborted : goal.returns-in-Aborted
unfolding outcome_number place_of
returns-in-Aborted c = rw c.in-Aborted.is refl

pub returns-in-Begun : goal.returns-in-Begun
unfolding outcome_number place_of
returns-in-Begun c = rw c.in-Begun.is refl
