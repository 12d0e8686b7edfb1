-- `ledger::Ledger::charge` meets its contract: the running account's total is not above the limit before. Assumes
-- nothing.
use Rattle.std.proofs.Common.{◌≤◌, get_or, rules, arith}
use Rattle.ledger.specs.Ledger.{limit}
use Rattle.ledger.proofs.Above.{none_above}
use Rattle.ledger.proofs.Ledger.charge.Goals as goal

pub overflow_add-self : goal.overflow_add-self
overflow_add-self c =
    let totals = c.args.self.now.totals.now in
    let account = c.args.self.now.running.account in
    let low : get_or totals account 0 ≤ limit = none_above 256 account totals (omega arith) c.requires.0 in
    search (rules, low)
