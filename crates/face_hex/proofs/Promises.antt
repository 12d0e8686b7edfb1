-- What Intel HEX by words promises holds. Assumes nothing.
use Rattle.face_hex.specs.Promises.{Promises}
use Rattle.face_hex.proofs.Kept.{text_kept, array_kept}

pub promises : Promises
promises = record { text_kept = text_kept; array_kept = array_kept }
