-- `ihex_read::Record::has_wrong_length` meets its contract: each type has its own rule. Assumes nothing.
use Rattle.std.proofs.Common.{Some, sym, ap, ◌∙◌}
use Rattle.std.proofs.Math.Bool.{or-false}
use Rattle.ihex_layout.specs.declared.Kind.{Kind}
use Rattle.ihex_layout.specs.Layout.{kind_of}
use Rattle.ihex_layout.proofs.Types.{names_number}
use Rattle.ihex_read.specs.Reader.{lines_in, first}
use Rattle.ihex_read.proofs.Record.has_wrong_length.Goals as goal

pub returns-in-Some-End : goal.returns-in-Some-End
returns-in-Some-End c =
    let named = c.in-Some-End.is ∙ ap (λ (k : Kind). Some k) c.in-Some-End.field-0-is in
    let kind = names_number (kind_of (first (lines_in c.args.self.now.rest.now))) _ (sym c.kind.ensures ∙ named) in
    rw (c.args.self.now.whole, kind, ← c.byte-length.ensures, or-false)

pub returns-in-Some-Upper : goal.returns-in-Some-Upper
returns-in-Some-Upper c =
    let named = c.in-Some-Upper.is ∙ ap (λ (k : Kind). Some k) c.in-Some-Upper.field-0-is in
    let kind = names_number (kind_of (first (lines_in c.args.self.now.rest.now))) _ (sym c.kind.ensures ∙ named) in
    rw (c.args.self.now.whole, kind, ← c.byte-length.ensures)
