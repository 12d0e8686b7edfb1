-- `face_hex::oxterin_hex_read` meets its contract: one word, or 255. Assumes nothing.
use Rattle.face_hex.specs.Words.{text_in}
use Rattle.face_hex.proofs.Kept.{tells_read, passes_over}
use Rattle.face_hex.proofs.oxterin_hex_read.Goals as goal

pub returns-in-Ok : goal.returns-in-Ok
returns-in-Ok c =
    tells_read _ _ _ _ 0 0 c.if-place-eq1.true c.in-Ok.ensures.result_value c.read.ensures.array_after

pub returns-in-Err : goal.returns-in-Err
returns-in-Err c =
    rw (c.from.ensures, c.number.ensures)
    (tells_read _ _ _ _ _ c.in-Err.fault.place c.if-place-eq1.true c.in-Err.ensures.result_value
    c.read.ensures.array_after)

pub returns : goal.returns
unfolding text_in
returns c = passes_over _ _ _ c.if-place-eq1.false
