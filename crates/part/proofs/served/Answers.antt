-- `part::served` meets its contract: the lengths of an accepted call are what the steps need, and the steps together
-- make the answer. Assumes nothing.
use Rattle.std.proofs.Common.{◌≡◌, ◌+◌, ◌/◌, ◌≤◌, length, arith}
use Rattle.judge.proofs.Leaves.{within}
use Rattle.memories.proofs.Long.{array_long}
use Rattle.calls.proofs.Accepting.{Accepting, accepted}
use Rattle.part.specs.Frame.{Call, Lent, lengths_of, number_for, facts_for}
use Rattle.part.proofs.Frames.{together}
use Rattle.part.proofs.served.Goals as goal

-- the call is one that is not refused
ok : (c : Call) (m : Lent) → number_for c (lengths_of c m) ≡ 0
    → Accepting c.device c.settings c.signals (lengths_of c m)
unfolding number_for
ok c m e = accepted _ _ _ _ e

-- its ticks are few enough to be counted
pub ticks_of-requires : goal.ticks_of-requires
ticks_of-requires c =
    let o = ok _ _ c.requires in
    let short : length c.args.call.now.input.now ≤ 8192 = o.short in
    let fits : (c.args.call.now.signals.bits + 7) / 8 ≡ length c.args.call.now.input.now = o.fits in
    (omega arith, o.quick)

-- the memories on its line are not empty
pub invariant_of-line : goal.invariant_of-line
invariant_of-line c =
    let o = ok _ _ c.requires in
    let l : length c.args.lent.now.register.now ≡ 128 = o.register in
    record { array_has_bytes = (array_long _ o.array).0; register_has_bytes = omega arith }

pub show-requires : goal.show-requires
show-requires c =
    let o = ok _ _ c.requires in
    record {
      driven_in_bounds = (
        rw (c.judge-judged.ensures, c.facts_of.ensures)
            (within _ c.args.call.now.settings (facts_for c.args.call.now.input.now c.args.call.now.signals _)),
        o.room,
        o.fits,
      );
    }

pub carry_out-covered-requires : goal.carry_out-covered-requires
carry_out-covered-requires c =
    let o = ok _ _ c.requires in
    (((array_long _ o.array).0, (array_long _ o.array).1), o.register)

pub returns-clause-answer : goal.returns-clause-answer
returns-clause-answer c =
    together _ _ c.passed-timed.result c.passed-risen.result c.judge-judged.result _ _ _ _ c.passed-timed.ensures
    (rw (c.passed-risen.ensures, c.ticks_of.ensures, c.passed-timed.ensures))
    (rw (c.judge-judged.ensures, c.facts_of.ensures, c.is_busy.ensures))
    c.carry_out-covered.ensures.value c.carry_out-covered.ensures.array_after c.carry_out-covered.ensures.register_after
    c.show.ensures
