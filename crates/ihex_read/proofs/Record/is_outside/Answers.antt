-- `ihex_read::Record::is_outside` meets its contract: each test is one of the definition's. Assumes nothing.
use Rattle.std.proofs.Common.{sym, ◌∙◌}
use borrow.Author.Tests.{ne_eqb, lt-ltb, le-ltb}
use mathlib.Core.Bool.{true≢false}
use mathlib.Core.Logic.{inl, inr}
use Rattle.ihex_read.proofs.Record.is_outside.Goals as goal
use Rattle.ihex_read.proofs.Record.is_outside.Goals.{then-has_kind, else-has_kind}

pub returns-then-address-length-gt65536 : goal.returns-then-address-length-gt65536
returns-then-address-length-gt65536 c =
    let some = c.if-length-ne0.true in
    rw (
      ← c.has_kind.ensures,
      some.0,
      ← c.byte.ensures,
      ← c.from-length.ensures,
      ne_eqb _ _ some.1,
      ← c.address.ensures,
      ← c.from-address.ensures,
      lt-ltb _ _ c.if-address-length-gt65536.true,
    )

pub returns-else-address-length-gt65536 : goal.returns-else-address-length-gt65536
returns-else-address-length-gt65536 c =
    let some = c.if-length-ne0.true in
    rw (
      ← c.has_kind.ensures,
      some.0,
      ← c.byte.ensures,
      ← c.from-length.ensures,
      ne_eqb _ _ some.1,
      ← c.address.ensures,
      ← c.from-address.ensures,
      le-ltb _ _ c.if-address-length-gt65536.false,
      c.from.ensures,
    )

pub returns-else-length-ne0 : goal.returns-else-length-ne0
returns-else-length-ne0 c =
    elim c.if-has_kind.branch [
      | then-has_kind w ↦
          elim c.if-length-ne0.either [
            | inl none ↦ rw (w.t-9-is, ← c.has_kind.ensures, none.0, ← c.byte.ensures, ← c.from-length.ensures, none.1)
            | inr other ↦ absurd (true≢false (sym w.if-has_kind.true ∙ other))
          ]
      | else-has_kind w ↦ rw (w.t-9-is, ← c.has_kind.ensures, w.if-has_kind.false)
    ]
