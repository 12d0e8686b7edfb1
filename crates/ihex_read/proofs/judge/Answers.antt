-- `ihex_read::judge` meets its contract: each turn walks one line on. Assumes nothing.
use Rattle.std.proofs.Common.{◌≡◌, sym, ◌∙◌, arith}
use borrow.Author.Tests.{eqb-true}
use Rattle.std.proofs.lemmas.Bool.{eqb-false}
use Rattle.refusals.proofs.Numbers.{never_0}
use Rattle.ihex_read.specs.Reader.{line_at, fault_of}
use Rattle.ihex_read.proofs.Lines.{to_end}
use Rattle.ihex_read.proofs.Faults.{sound, good_whole}
use Rattle.ihex_read.proofs.Walks.{sets_out, stops, ends_at, goes_on, runs_out, next_inside, next_further}
use Rattle.ihex_read.proofs.judge.Goals as goal
use Rattle.ihex_read.proofs.judge.Goals.{In_default}

-- the line is good
good : (c : In_default) → fault_of c.args.size c.loop-at.upper (line_at c.args.text.now c.loop-at.at) ≡ 0
good c = rw (to_end c.args.text.now c.loop-at.at) at (sym c.in_default.ensures)

pub loop-at-init : goal.loop-at-init
loop-at-init c = sets_out _ _

pub returns-in-Err : goal.returns-in-Err
returns-in-Err c =
    let fault = rw (to_end c.args.text.now c.loop-at.at) at c.in-Err.ensures in
    rw fault (stops c.loop-at.invariant c.loop-at-test.true (λ z. never_0 c.in-Err.refusal (fault ∙ z)))

pub invariant_of-record : goal.invariant_of-record
invariant_of-record c =
    rw (to_end c.args.text.now c.loop-at.at)
    (record { whole = good_whole _ _ _ (good (goal.at.invariant_of-record c).In_default) })

pub overflow_add-next : goal.overflow_add-next
overflow_add-next c =
    omega (arith, rw (to_end c.args.text.now c.loop-at.at) at c.next_line.ensures, next_inside c.loop-at.invariant)

pub end_at-requires : goal.end_at-requires
end_at-requires c =
    omega (arith, rw (to_end c.args.text.now c.loop-at.at) at c.next_line.ensures, next_inside c.loop-at.invariant)

pub returns-then-has_kind : goal.returns-then-has_kind
returns-then-has_kind c =
    let f = good (goal.at.returns-then-has_kind c).In_default in
    let next = rw (to_end c.args.text.now c.loop-at.at) at c.next_line.ensures in
    let kind = rw (to_end c.args.text.now c.loop-at.at) at (sym c.has_kind.ensures ∙ c.if-has_kind.true) in
    c.end_at.ensures ∙ rw next (ends_at c.loop-at.invariant c.loop-at-test.true f (eqb-true _ _ kind))

pub upper_behind-upper-requires : goal.upper_behind-upper-requires
upper_behind-upper-requires c =
    rw (to_end c.args.text.now c.loop-at.at)
    (sound _ _ _ (good (goal.at.upper_behind-upper-requires c).In_default))

pub loop-at-smaller : goal.loop-at-smaller
loop-at-smaller c =
    omega (
      arith,
      rw (to_end c.args.text.now c.loop-at.at) at c.next_line.ensures,
      next_inside c.loop-at.invariant,
      next_further c.loop-at.invariant c.loop-at-test.true,
    )

pub loop-at-preserved : goal.loop-at-preserved
loop-at-preserved c =
    let f = good (goal.at.loop-at-preserved c).In_default in
    let next = rw (to_end c.args.text.now c.loop-at.at) at c.next_line.ensures in
    let upper = rw (to_end c.args.text.now c.loop-at.at) at c.upper_behind-upper.ensures in
    let kind = rw (to_end c.args.text.now c.loop-at.at) at (sym c.has_kind.ensures ∙ c.if-has_kind.false) in
    rw (next, upper)
    (goes_on c.loop-at.invariant c.loop-at-test.true f (eqb-false _ _ kind))

pub returns : goal.returns
returns c = runs_out c.loop-at.invariant c.loop-at-test.false
