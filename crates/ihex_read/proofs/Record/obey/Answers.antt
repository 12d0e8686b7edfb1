-- `ihex_read::Record::obey` meets its contract: a data record lies in the array. Assumes nothing.
use Rattle.std.proofs.Common.{sym, ◌∙◌, arith}
use borrow.Author.Tests.{eqb-true}
use Rattle.ihex_read.specs.Reader.{obeyed}
use Rattle.ihex_read.proofs.Faults.{data_inside}
use Rattle.ihex_read.proofs.Record.obey.Goals as goal

pub lay-requires : goal.lay-requires
lay-requires c =
    let kind = eqb-true _ _ (sym c.has_kind.ensures ∙ c.if-has_kind.true) in
    let there = c.from-then-has_kind.ensures ∙ c.address.ensures in
    (omega arith, λ l. rw (c.from.ensures, there) (data_inside _ _ _ c.requires kind l))

pub returns-then-has_kind : goal.returns-then-has_kind
unfolding obeyed
returns-then-has_kind c =
    rw (
      ← c.has_kind.ensures,
      c.if-has_kind.true,
      ← c.address.ensures,
      ← c.from-then-has_kind.ensures,
      ← c.from.ensures,
    )
    c.lay.ensures

pub returns-else-has_kind : goal.returns-else-has_kind
unfolding obeyed
returns-else-has_kind c = rw (← c.has_kind.ensures, c.if-has_kind.false)
