-- `ihex_write::put_row` meets its contract: where 64 KiB begin its two records, and elsewhere its one, are the row.
-- Assumes nothing.
use Rattle.std.proofs.Common.{ℕ, ◌≡◌, ◌+◌, ◌-◌, ◌≤◌, List, length, take, drop, length-drop, arith}
use lib.Seq.{length-take-le}
use Rattle.ihex_write.proofs.Rows.{first_put, other_put, length-first, length-other}
use Rattle.ihex_write.proofs.put_row.Goals as goal

-- the row's 16 bytes
row : (array : List ℕ) (from : ℕ) → from + 16 ≤ length array → length (take (from + 16 - from) (drop from array)) ≡ 16
row array from l =
    let e : from + 16 - from ≡ 16 = omega arith in
    rw e (length-take-le 16 (drop from array) (omega (arith, length-drop from array)))

pub put_upper-requires : goal.put_upper-requires
put_upper-requires c = omega (arith, length-first _ _ c.requires.1 c.if-from-eq0.true)

pub put_record-requires : goal.put_record-requires
put_record-requires c =
    omega (arith, length-first _ _ c.requires.1 c.if-from-eq0.true, row _ _ c.requires.1)

pub returns-then-from-eq0 : goal.returns-then-from-eq0
returns-then-from-eq0 c =
    let e : c.args.from + 16 - c.args.from ≡ 16 = omega arith in
    record {
      value = omega (arith, length-first _ _ c.requires.1 c.if-from-eq0.true);
      output_after = first_put _ _ _ _ _ _ c.if-from-eq0.true c.put_upper.ensures (rw e at c.put_record.ensures);
    }

pub put_record-requires-2 : goal.put_record-requires-2
put_record-requires-2 c =
    omega (arith, length-other _ _ c.requires.1 c.if-from-eq0.false, row _ _ c.requires.1)

pub returns : goal.returns
returns c =
    let e : c.args.from + 16 - c.args.from ≡ 16 = omega arith in
    record {
      value = omega (arith, length-other _ _ c.requires.1 c.if-from-eq0.false);
      output_after = other_put _ _ _ _ _ c.if-from-eq0.false (rw e at c.put_record-2.ensures);
    }
