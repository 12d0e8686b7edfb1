-- `face_frame::reply` meets its contract: of a refused call nothing is told. Assumes nothing.
use Rattle.face_words.specs.Words.{outcome_number, cause_place, place_of}
use Rattle.face_frame.proofs.reply.Goals as goal

pub returns-in-Err-clause-answer_after : goal.returns-in-Err-clause-answer_after
unfolding outcome_number cause_place place_of
returns-in-Err-clause-answer_after c = rw c.in-Err.is c.tell-in-Err.ensures
