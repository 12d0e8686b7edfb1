-- `ledger_frame::frame_knowing` meets its contract. Assumes nothing.
use Rattle.std.proofs.Common.{sym, ap, ◌∙◌}
use Rattle.part.specs.Frame.{call_of, lent_of, turned_away_by}
use Rattle.ledger.specs.Lent.{ledger_of}
use Rattle.ledger_frame.proofs.Frames.{short, shut_frame, open_frame}
use Rattle.ledger_frame.proofs.frame_knowing.Goals as goal

pub returns-then-shut-clause-meets : goal.returns-then-shut-clause-meets
returns-then-shut-clause-meets c =
    shut_frame (call_of c.args.call.now) (lent_of c.args.lent.now) c.args.account (ledger_of c.args.ledger.now) _
    (sym c.requires ∙ c.if-shut.true)
    (c.turned_away.ensures ∙ ap (turned_away_by 9 (call_of c.args.call.now)) c.lengths-lengths.ensures)

pub book-requires-clause-busy_bound : goal.book-requires-clause-busy_bound
book-requires-clause-busy_bound c =
    short (call_of c.args.call.now) (lent_of c.args.lent.now) _ c.frame-came.result c.frame-came.ensures.meets

pub returns-clause-meets : goal.returns-clause-meets
returns-clause-meets c =
    open_frame _ _ _ c.frame-came.result c.args.account (ledger_of c.args.ledger.now) _
    (sym c.requires ∙ c.if-shut.false) c.frame-came.ensures.meets c.book.ensures.value
