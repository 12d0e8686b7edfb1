-- `ihex_write::put_bytes` meets its contract: each turn writes one byte more. Assumes nothing.
use Rattle.std.proofs.Common.{refl, arith}
use Rattle.ihex_write.proofs.Digits.{spells, spells_on, spelled}
use Rattle.ihex_write.proofs.put_bytes.Goals as goal

pub loop-i-init : goal.loop-i-init
loop-i-init c = spells _ _ _

pub loop-i-preserved : goal.loop-i-preserved
loop-i-preserved c =
    rw c.from-total.ensures
    (spells_on c.loop-i.invariant c.loop-i-test.true _ (c.type_inv.bytes c.loop-i.i).fits refl c.put_byte.ensures)

pub returns : goal.returns
returns c =
    let all = spelled c.args.bytes.now c.loop-i.invariant (omega arith) in
    record { value = all.0; upper_bound = omega (arith, c.loop-i.invariant.small); output_after = all.1 }
