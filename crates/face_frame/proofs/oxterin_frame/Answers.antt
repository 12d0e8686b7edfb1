-- `face_frame::oxterin_frame` meets its contract: words that stand for a call are told, others change nothing.
-- Assumes nothing.
use Rattle.std.proofs.Common.{◌≡◌, true, subst, rules, ◌∙◌}
use Rattle.part.specs.Frame.{Lent, call, lent, Meets}
use Rattle.face_frame.specs.Words.{handed, is_call, faced}
use Rattle.face_frame.proofs.Words.{enough, as_told}
use Rattle.face_frame.proofs.oxterin_frame.Goals as goal

pub returns-then-is_record-is_settings : goal.returns-then-is_record-is_settings
unfolding faced
returns-then-is_record-is_settings c =
    let a = c.args in
    let h = handed a.device.now a.settings.now a.signals.now a.input.now a.answer.now in
    let right : is_call h ≡ true =
    rw (← c.is_answer.ensures, ← c.is_signals.ensures, ← c.is_settings.ensures, ← c.is_record.ensures)
    c.if-is_record-is_settings.true in
    let m = lent a.array.now a.register.now a.output.now in
    let asked = call c.device_of.result c.settings_of.result a.input.now c.signals_of.result in
    rw right
    (as_told h m _ _ _ _ c.frame-came.result _ _ _
    c.device_of.ensures c.settings_of.ensures c.signals_of.ensures
    (subst (λ (n : Lent). Meets asked m c.frame-came.result n) (search rules) c.frame-came.ensures.meets)
    c.reply.ensures.value
    (c.reply.ensures.device_after ∙ rw (enough h right).0)
    (c.reply.ensures.answer_after ∙ rw (enough h right).1))

pub returns : goal.returns
unfolding faced
returns c =
    rw (
      ← c.is_answer.ensures,
      ← c.is_signals.ensures,
      ← c.is_settings.ensures,
      ← c.is_record.ensures,
      c.if-is_record-is_settings.false,
    )
