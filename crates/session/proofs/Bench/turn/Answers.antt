-- `Bench::turn` meets its contract: the output stays as long as it was. Assumes nothing.
use Rattle.std.proofs.Common.{arith}
use Rattle.session.proofs.Lines.{left_as_long}
use Rattle.session.proofs.Bench.turn.Goals as goal

pub print_frame-requires : goal.print_frame-requires
print_frame-requires g c = omega (arith, c.requires.1, left_as_long _ _ _ _ c.frame.ensures.meets)

pub returns-clause-as_long : goal.returns-clause-as_long
returns-clause-as_long g c = left_as_long _ _ _ _ c.frame.ensures.meets
