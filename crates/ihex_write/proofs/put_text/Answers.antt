-- `ihex_write::put_text` meets its contract: each turn writes one row more, and the end's line follows. Assumes
-- nothing.
use Rattle.std.proofs.Common.{length, ap, arith}
use Rattle.ihex_write.proofs.Ahead.{writing, row_inside, row_room, writes_on, end_room, ends}
use Rattle.ihex_write.proofs.put_text.Goals as goal
use Rattle.ihex_write.proofs.put_text.Goals.{else-loop-from-test, then-loop-from-test+else-from-end-from-gt16}

pub loop-from-init : goal.loop-from-init
loop-from-init c = writing _ _ c.requires.0

pub put_row-at-requires : goal.put_row-at-requires
put_row-at-requires c =
    let w = c.loop-from.invariant in
    let more = c.loop-from-test.true in
    (row_room w c.requires.1 more, row_inside w c.requires.1 more, c.requires.2)

pub loop-from-preserved : goal.loop-from-preserved
loop-from-preserved c =
    writes_on c.loop-from.invariant c.requires.1 c.loop-from-test.true _ _ c.put_row-at.ensures.value
    c.put_row-at.ensures.output_after

pub put_record-requires : goal.put_record-requires
put_record-requires c =
    elim c.loop-from-test.branch [
      | else-loop-from-test w ↦
          let room = end_room c.loop-from.invariant w.loop-from-test.false in
          omega (arith, w.at-is, ap length w.output-is, room)
      | then-loop-from-test+else-from-end-from-gt16 w ↦
          let row = w.put_row-at.ensures in
          let more = w.loop-from-test.true in
          let written = writes_on c.loop-from.invariant c.requires.1 more _ _ row.value row.output_after in
          omega (arith, w.at-is, ap length w.output-is, end_room written (omega arith))
    ]

pub returns : goal.returns
returns c =
    elim c.loop-from-test.branch [
      | else-loop-from-test w ↦
          let last = rw (w.at-is, w.output-is) at c.put_record.ensures in
          ends c.loop-from.invariant w.loop-from-test.false _ last
      | then-loop-from-test+else-from-end-from-gt16 w ↦
          let row = w.put_row-at.ensures in
          let more = w.loop-from-test.true in
          let written = writes_on c.loop-from.invariant c.requires.1 more _ _ row.value row.output_after in
          ends written (omega arith) _ (rw (w.at-is, w.output-is) at c.put_record.ensures)
    ]
