-- `ihex_read::Record::upper_behind` meets its contract: a record of type 04 has two bytes. Assumes nothing.
use Rattle.std.proofs.Common.{sym, ◌∙◌, arith}
use borrow.Author.Tests.{eqb-true}
use Rattle.ihex_read.proofs.Faults.{sound_upper}
use Rattle.ihex_read.proofs.Record.upper_behind.Goals as goal

pub byte-requires-then-has_kind : goal.byte-requires-then-has_kind
byte-requires-then-has_kind c =
    omega (arith, sound_upper _ c.requires (eqb-true _ _ (sym c.has_kind.ensures ∙ c.if-has_kind.true)))
