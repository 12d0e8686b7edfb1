-- `ihex_read::record_at` meets its contract: what stands in the text and what the line says are the same. Assumes
-- nothing.
use Rattle.std.proofs.Common.{sym, ◌∙◌, arith}
use borrow.Author.Tests.{ltb-true}
use Rattle.ihex_read.proofs.Lines.{to_end}
use Rattle.ihex_read.proofs.Whole.{found_short, found_lengthless, found_pairs, found_colonless, found_endless}
use Rattle.ihex_read.proofs.record_at.Goals as goal
use Rattle.ihex_read.proofs.record_at.Goals.{then-rest-lt11-via-then-rest-lt11}
use Rattle.ihex_read.proofs.record_at.Goals.{then-rest-lt11-via-else-rest-lt11+then-rest-ne58}
use Rattle.ihex_read.proofs.record_at.Goals.{then-rest-lt11-via-else-rest-lt11+else-rest-ne58+then-not-is_pair}
use Rattle.ihex_read.proofs.record_at.Goals.{then-rest-end-via-then-rest-end}
use Rattle.ihex_read.proofs.record_at.Goals.{then-rest-end-via-else-rest-end+then-not-is_end}

pub returns-then-rest-lt11 : goal.returns-then-rest-lt11
returns-then-rest-lt11 c =
    elim c.then-rest-lt11.branch [
      | then-rest-lt11-via-then-rest-lt11 w ↦ found_short _ (omega arith)
      | then-rest-lt11-via-else-rest-lt11+then-rest-ne58 w ↦ found_colonless _ w.if-rest-ne58.true
      | then-rest-lt11-via-else-rest-lt11+else-rest-ne58+then-not-is_pair w ↦
          found_lengthless _ (sym w.is_pair.ensures ∙ w.if-not-is_pair.true)
    ]

pub returns-then-rest-end : goal.returns-then-rest-end
returns-then-rest-end c =
    let known = c.byte_at.ensures.value (ltb-true _ _ (sym c.is_pair.ensures ∙ c.if-not-is_pair.false)) in
    elim c.then-rest-end.branch [
      | then-rest-end-via-then-rest-end w ↦ found_short _ (omega arith)
      | then-rest-end-via-else-rest-end+then-not-is_end w ↦
          found_endless _ _ known (rw (to_end _ _) at (sym w.is_end.ensures) ∙ w.if-not-is_end.true)
    ]

pub returns : goal.returns
returns c =
    let known = c.byte_at.ensures.value (ltb-true _ _ (sym c.is_pair.ensures ∙ c.if-not-is_pair.false)) in
    c.tally.ensures ∙
    found_pairs _ _ _ known (omega arith) c.if-rest-ne58.false
    (rw (to_end _ _) at (sym c.is_end.ensures) ∙ c.if-not-is_end.false)
