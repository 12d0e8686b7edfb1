-- `ledger::Ledger::start` meets its contract: one entry, not above the limit before, rises by one. Assumes nothing.
use Rattle.std.proofs.Common.{◌≤◌, get_or, rules}
use Rattle.ledger.specs.Ledger.{limit}
use Rattle.ledger.proofs.Above.{none_above}
use Rattle.ledger.proofs.Ledger.start.Goals as goal

pub overflow_add-self : goal.overflow_add-self
overflow_add-self c =
    let numbers = c.args.self.now.numbers.now in
    let low : get_or numbers c.args.account 0 ≤ limit =
    none_above 256 c.args.account numbers c.requires.0 c.requires.1 in
    search (rules, low)
