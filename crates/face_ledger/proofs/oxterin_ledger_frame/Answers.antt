-- `face_ledger::oxterin_ledger_frame` meets its contract: words that stand for a call are told, others change
-- nothing. Assumes nothing.
use Rattle.std.proofs.Common.{◌≡◌, true, rules, ◌∙◌}
use Rattle.part.specs.Frame.{call, lent, lent_of, reply_of}
use Rattle.ledger.specs.Ledger.{ledger}
use Rattle.ledger.specs.Lent as held
use Rattle.face_frame.specs.Words.{handed}
use Rattle.face_frame.proofs.Words.{enough}
use Rattle.face_ledger.specs.Words.{ticket, is_call_for, faced}
use Rattle.face_ledger.proofs.Words.{stands, as_told_for, met_there}
use Rattle.face_ledger.proofs.oxterin_ledger_frame.Goals as goal

pub returns-then-is_record-is_settings : goal.returns-then-is_record-is_settings
unfolding faced
returns-then-is_record-is_settings c =
    let a = c.args in
    let h = handed a.device.now a.settings.now a.signals.now a.input.now a.answer.now in
    let t = ticket a.account a.running.now a.totals.now a.most.now a.numbers.now in
    let m = lent a.array.now a.register.now a.output.now in
    let right : is_call_for h t ≡ true =
    rw (
      ← c.is_lent.ensures,
      ← c.is_answer.ensures,
      ← c.is_signals.ensures,
      ← c.is_settings.ensures,
      ← c.is_record.ensures,
    )
    c.if-is_record-is_settings.true in
    let both = stands h t right in
    let room = enough h both.0 in
    let asked = call c.device_of.result c.settings_of.result a.input.now c.signals_of.result in
    let before = ledger a.totals.now a.most.now a.numbers.now c.running_of.result in
    let came = c.frame_for-came.result in
    rw right
    (as_told_for h t m _ _ _ _ _ c.frame_for-came.new.ledger.running came _ _ _ _ _ _ _ c.device_of.ensures
    c.settings_of.ensures c.signals_of.ensures
    c.running_of.ensures
    (met_there asked m a.account before (reply_of asked.device came) (lent_of c.frame_for-came.new.lent) _
    (held.ledger_of c.frame_for-came.new.ledger) _ (search rules) (search rules) c.frame_for-came.ensures.meets)
    c.reply.ensures.value
    (c.reply.ensures.device_after ∙ rw room.0) (c.reply.ensures.answer_after ∙ rw room.1)
    (c.put_running.ensures ∙ rw both.1))

pub returns : goal.returns
unfolding faced
returns c =
    rw (
      ← c.is_lent.ensures,
      ← c.is_answer.ensures,
      ← c.is_signals.ensures,
      ← c.is_settings.ensures,
      ← c.is_record.ensures,
      c.if-is_record-is_settings.false,
    )
