-- `ledger::Ledger::book` meets its contract: nothing of a refused call, and of an accepted one what came off. Assumes
-- nothing.
use Rattle.std.proofs.Common.{ℕ, ◌≡◌, ap, ◌∙◌, ne_eqb, rules}
use Rattle.refusals.proofs.Numbers.{never_0}
use Rattle.ledger.specs.Lent.{ledger_of}
use Rattle.ledger.specs.Ledger.{charged, started, stopped, booked}
use Rattle.judge.specs.declared.Outcome.{Outcome}
use Rattle.ledger.proofs.Outcomes.{not_begun}
use Rattle.ledger.proofs.Ledger.book.Goals as goal

pub returns-then-eq-clause-value : goal.returns-then-eq-clause-value
unfolding booked
returns-then-eq-clause-value c =
    let kept = c.charge.ensures.value ∙ ap (λ (ticks : ℕ). charged ticks (ledger_of c.args.self.now)) c.came_off-ticks.ensures in
    let begun : c.in-Ok.answer.outcome ≡ Outcome.Begun = search (rules, c.eq.ensures, c.if-eq.true) in
    rw (c.in-Ok.is, begun)
    (c.start.ensures.value ∙ ap (started c.args.account) kept)

pub returns-then-answer-eq0-clause-value : goal.returns-then-answer-eq0-clause-value
unfolding booked
returns-then-answer-eq0-clause-value c =
    let kept = c.charge.ensures.value ∙ ap (λ (ticks : ℕ). charged ticks (ledger_of c.args.self.now)) c.came_off-ticks.ensures in
    let other = not_begun c.in-Ok.answer.outcome (search (rules, c.eq.ensures, c.if-eq.false)) in
    rw (c.in-Ok.is, other, c.if-answer-eq0.true, c.nobody-self.ensures)
    (ap stopped kept)

pub returns-else-answer-eq0-clause-value : goal.returns-else-answer-eq0-clause-value
unfolding booked
returns-else-answer-eq0-clause-value c =
    let kept = c.charge.ensures.value ∙ ap (λ (ticks : ℕ). charged ticks (ledger_of c.args.self.now)) c.came_off-ticks.ensures in
    rw (c.in-Ok.is, not_begun c.in-Ok.answer.outcome (search (rules, c.eq.ensures, c.if-eq.false)), ne_eqb _ _ c.if-answer-eq0.false) kept

pub returns-in_default-clause-value : goal.returns-in_default-clause-value
unfolding booked
returns-in_default-clause-value c = rw (c.in_default.is, ne_eqb _ _ (never_0 c.in_default.field-0))
