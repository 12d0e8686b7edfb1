-- `part::turned_away` meets its contract: the refusal that is looked for is the call's. Assumes nothing.
use Rattle.std.proofs.Common.{ne_eqb}
use Rattle.refusals.proofs.Numbers.{never_0}
use Rattle.part.specs.Frame.{number_for}
use Rattle.part.proofs.turned_away.Goals as goal

pub returns-in-Ok : goal.returns-in-Ok
unfolding number_for
returns-in-Ok c = rw (← c.refusal_of.ensures, c.in-Ok.is)

pub returns-in-Err : goal.returns-in-Err
unfolding number_for
returns-in-Err c = rw (← c.refusal_of.ensures, c.in-Err.is, ne_eqb _ _ (never_0 c.in-Err.own))
