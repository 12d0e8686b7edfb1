-- `ledger_frame::frame_watched` meets its contract: what is known of the tables says whether the ledger is shut.
-- Assumes nothing.
use Rattle.std.proofs.Common.{ℕ, not, ◌||◌, ltb, rules, tests, ap, ◌∙◌}
use Rattle.part.specs.Frame.{call_of, lent_of}
use Rattle.ledger.specs.Lent.{ledger_of}
use Rattle.ledger.specs.Ledger.{limit}
use Rattle.ledger_frame.proofs.Frames.{shut_so, kept_bounded}
use Rattle.ledger_frame.proofs.frame_watched.Goals as goal

pub frame_knowing-requires : goal.frame_knowing-requires
frame_knowing-requires c =
    search (rules, tests) ∙ ap (λ (known : ℕ). not (ltb c.args.account 256) || ltb limit known) c.watched-known.ensures ∙
    shut_so c.args.bound.now c.args.account (ledger_of c.args.ledger.now) c.requires

pub returns-clause-bounded : goal.returns-clause-bounded
returns-clause-bounded c =
    kept_bounded c.args.bound.now _ _ (call_of c.args.call.now) (lent_of c.args.lent.now) _ c.args.account
    (ledger_of c.args.ledger.now) _ _ c.requires c.watched-known.ensures c.raised.ensures c.frame_knowing.ensures.meets
