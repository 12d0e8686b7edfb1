-- `ihex_read::fault_of` meets its contract: the tests in the order of their numbers. Assumes nothing.
use Rattle.std.proofs.Common.{ℕ, ◌≡◌, true, Result, sym, ap, ◌∙◌}
use Rattle.std.proofs.lemmas.Result.{err_from_is_err_and}
use borrow.Author.Tests.{eq-eqb, ne_eqb}
use Rattle.refusals.specs.declared.Refusal.{Refusal}
use Rattle.refusals.specs.Refusals.{number_in}
use Rattle.ihex_layout.specs.Layout.{asked, sum_of}
use Rattle.ihex_layout.proofs.Types.{names_none}
use Rattle.ihex_read.specs.Reader.{lines_in, first, is_whole, fault_of}
use Rattle.ihex_read.proofs.Whole.{found_some, found_none}
use Rattle.ihex_read.proofs.fault_of.Goals as goal
use Rattle.ihex_read.proofs.fault_of.Goals.{In_ok-total}

-- What is known of the record once it is found whole.
whole : (c : In_ok-total) → (is_whole (first (lines_in c.args.rest.now)) ≡ true)
    × (c.in_ok-total.total ≡ sum_of (first (lines_in c.args.rest.now)) (asked (first (lines_in c.args.rest.now))))
whole c = found_some _ _ (sym c.record_at.ensures ∙ c.in_ok-total.ensures.ok_part)

pub returns-in_err-total : goal.returns-in_err-total
unfolding fault_of
returns-in_err-total c =
    let p = err_from_is_err_and c.from_residual.result c.from_residual.ensures.1 in
    let none = c.in_err-total.ensures.ok_part in
    let told = ap (λ (r : Result ℕ Refusal). number_in r) (rw none at c.in_err-total.ensures.value) in
    rw (p.1, p.2, found_none _ (sym c.record_at.ensures ∙ none)) told

pub invariant_of-record : goal.invariant_of-record
invariant_of-record c = record { whole = (whole (goal.at.invariant_of-record c).In_ok-total).0 }

pub returns-then-has_wrong_length : goal.returns-then-has_wrong_length
unfolding fault_of
returns-then-has_wrong_length c = rw (← c.has_wrong_length.ensures, c.if-has_wrong_length.true)

pub returns-then-total-ne0 : goal.returns-then-total-ne0
unfolding fault_of
returns-then-total-ne0 c =
    let sum = (whole (goal.at.returns-then-total-ne0 c).In_ok-total).1 in
    rw (← c.has_wrong_length.ensures, c.if-has_wrong_length.false, ← sum, ne_eqb _ _ c.if-total-ne0.true)

pub returns-then-is_none : goal.returns-then-is_none
unfolding fault_of
returns-then-is_none c =
    let sum = (whole (goal.at.returns-then-is_none c).In_ok-total).1 in
    rw (
      ← c.has_wrong_length.ensures,
      c.if-has_wrong_length.false,
      ← sum,
      eq-eqb _ _ c.if-total-ne0.false,
      ← names_none,
      ← c.kind.ensures,
      c.is_none.ensures,
      c.if-is_none.true,
    )

pub returns-then-is_outside : goal.returns-then-is_outside
unfolding fault_of
returns-then-is_outside c =
    let sum = (whole (goal.at.returns-then-is_outside c).In_ok-total).1 in
    rw (
      ← c.has_wrong_length.ensures,
      c.if-has_wrong_length.false,
      ← sum,
      eq-eqb _ _ c.if-total-ne0.false,
      ← names_none,
      ← c.kind.ensures,
      c.is_none.ensures,
      c.if-is_none.false,
      ← c.is_outside.ensures,
      c.if-is_outside.true,
    )

pub returns : goal.returns
unfolding fault_of
returns c =
    let sum = (whole (goal.at.returns c).In_ok-total).1 in
    rw (
      ← c.has_wrong_length.ensures,
      c.if-has_wrong_length.false,
      ← sum,
      eq-eqb _ _ c.if-total-ne0.false,
      ← names_none,
      ← c.kind.ensures,
      c.is_none.ensures,
      c.if-is_none.false,
      ← c.is_outside.ensures,
      c.if-is_outside.false,
    )
