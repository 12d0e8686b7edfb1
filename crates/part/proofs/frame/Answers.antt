-- `part::frame` meets its contract: a call that is not refused is served, any other leaves all as it was. Assumes
-- nothing.
use Rattle.std.proofs.Common.{◌≡◌, Err, ne_eqb, rules}
use Rattle.refusals.proofs.Numbers.{never_0}
use Rattle.part.specs.Frame.{number_for, replied, frame}
use Rattle.part.proofs.frame.Goals as goal

pub served-requires : goal.served-requires
unfolding number_for
served-requires c = rw (← c.lengths.ensures, ← c.refusal_of.ensures, c.in_ok-refusal_of.was)

pub returns-in_err-refusal_of-clause-meets : goal.returns-in_err-refusal_of-clause-meets
unfolding number_for frame replied
returns-in_err-refusal_of-clause-meets c =
    let e : c.from_residual.result ≡ Err c.in_err-refusal_of.field-0.0 = search rules in
    rw (e, ← c.lengths.ensures, ← c.refusal_of.ensures, c.in_err-refusal_of.was, ne_eqb _ _ (never_0 c.in_err-refusal_of.field-0.0))

pub returns-clause-meets : goal.returns-clause-meets
unfolding number_for frame replied
returns-clause-meets c = rw (← c.lengths.ensures, ← c.refusal_of.ensures, c.in_ok-refusal_of.was) c.served.ensures.answer
