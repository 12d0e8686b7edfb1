-- `face_ledger::oxterin_close` meets its contract: words that stand for a running operation are told, others change
-- nothing. Assumes nothing.
use Rattle.std.proofs.Common.{rules, sym, ◌∙◌}
use Rattle.face_ledger.specs.Words.{tables, closing}
use Rattle.face_ledger.proofs.Words.{as_closed}
use Rattle.face_ledger.proofs.oxterin_close.Goals as goal

pub returns-then-is_lent : goal.returns-then-is_lent
returns-then-is_lent c =
    let a = c.args in
    let right = sym c.is_lent.ensures ∙ c.if-is_lent.true in
    as_closed a.running.now _ (tables a.totals.now a.most.now a.numbers.now)
    (tables a.old_totals.now a.old_most.now a.old_numbers.now) _ c.close.new.self.running _ _ _ _ _ _ right
    c.running_of.ensures (search rules ∙ c.close.ensures.value) c.close.ensures.old_totals_after
    (c.put_running.ensures ∙ rw right)

pub returns : goal.returns
unfolding closing
returns c = rw (← c.is_lent.ensures, c.if-is_lent.false)
