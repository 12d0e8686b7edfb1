-- `ihex_read::tally` meets its contract: each turn takes one pair more. Assumes nothing.
use Rattle.std.proofs.Common.{refl, sym, ◌∙◌, add-one, arith}
use mathlib.Core.Bool.{and-eq-true_iff}
use borrow.Author.Tests.{ltb-true}
use Rattle.ihex_layout.specs.Layout.{sum_of}
use Rattle.ihex_read.specs.Reader.{pairs}
use Rattle.ihex_read.proofs.tally.Goals as goal

pub loop-k-init : goal.loop-k-init
unfolding pairs sum_of
loop-k-init c = record { tested = refl; adds_up = λ e. refl; small = omega arith }

pub loop-k-preserved : goal.loop-k-preserved
unfolding pairs sum_of
loop-k-preserved c =
    let so = c.loop-k.invariant in
    record {
      tested = rw (add-one c.loop-k.k, c.is_pair-whole.ensures, so.tested);
      adds_up =
          λ e.
          let both = (and-eq-true_iff c.loop-k.whole c.is_pair-whole.result).0 e in
          let read = c.byte_at.ensures.value (ltb-true _ _ (sym c.is_pair-whole.ensures ∙ both.1)) in
          rw (add-one c.loop-k.k, so.adds_up both.0, read);
      small = omega (arith, so.small, c.byte_at.ensures.upper_bound);
    }
