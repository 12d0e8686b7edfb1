-- `Bench::session` meets its contract: its four turns, one behind the other. Assumes nothing.
use Rattle.std.proofs.lemmas.Result.{on_ok_weaker}
use Rattle.session.proofs.Lines.{four}
use Rattle.session.proofs.Bench.session.Goals as goal

pub returns-clause-lines : goal.returns-clause-lines
returns-clause-lines g c =
    on_ok_weaker c.turn-4.result
    (four _ _ _ _ _ _ _ _ _ _ _ _ _ _ _ _ _
    c.turn.ensures.value c.turn.ensures.same_settings c.turn.ensures.output_after
    c.turn-2.ensures.value c.turn-2.ensures.same_settings c.turn-2.ensures.output_after
    c.turn-3.ensures.value c.turn-3.ensures.same_settings c.turn-3.ensures.output_after
    c.in_ok-turn.ensures.printed c.in_ok-turn-2.ensures.printed c.in_ok-turn-3.ensures.printed)
    c.turn-4.ensures.printed
