-- What the words promise holds. Assumes nothing.
use Rattle.face_words.specs.Promises.{Promises}
use Rattle.face_words.proofs.Records.{same_words, same_durations, is_record_lem, same_record}

pub promises : Promises
promises = record { handed_on = λ d. (is_record_lem d, same_record d); same_words = same_words; same_durations = same_durations }
