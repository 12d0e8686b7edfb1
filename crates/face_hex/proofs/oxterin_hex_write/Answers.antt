-- `face_hex::oxterin_hex_write` meets its contract: one word, or 255. Assumes nothing.
use Rattle.face_hex.specs.Words.{text_out}
use Rattle.face_hex.proofs.Kept.{tells_written, passes_over}
use Rattle.face_hex.proofs.oxterin_hex_write.Goals as goal

pub returns-in-Ok : goal.returns-in-Ok
returns-in-Ok c =
    tells_written _ _ _ _ 0 c.in-Ok.written c.if-characters-eq1.true c.in-Ok.ensures.result_value
    c.write.ensures.output_after

pub returns-in-Err : goal.returns-in-Err
returns-in-Err c =
    rw (c.from.ensures, c.number.ensures)
    (tells_written _ _ _ _ _ 0 c.if-characters-eq1.true c.in-Err.ensures.result_value c.write.ensures.output_after)

pub returns : goal.returns
unfolding text_out
returns c = passes_over _ _ _ c.if-characters-eq1.false
