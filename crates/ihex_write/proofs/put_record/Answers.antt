-- `ihex_write::put_record` meets its contract: the pieces of the record, stored one behind the other. Assumes nothing.
use Rattle.std.proofs.Common.{refl, ◌∙◌}
use Rattle.ihex_write.proofs.Records.{two_bytes, record_put}
use Rattle.ihex_write.proofs.put_record.Goals as goal

pub returns : goal.returns
returns c =
    let address = c.to_be_bytes.ensures ∙ two_bytes c.args.address c.ranges.address.fits in
    let high = rw address at c.put_byte-2.ensures in
    let low = rw address at c.put_byte-3.ensures in
    let kind = rw c.number-number.ensures at c.put_byte-4.ensures in
    let check =
    rw (c.from.ensures, c.from-2.ensures, c.from-3.ensures, c.number-number.ensures, address) at
    c.put_byte-5.ensures in
    record_put _ _ _ _ _ _ _ _ _ _ _ _ _ refl c.put_bytes-total.ensures.value
    c.put_byte.ensures high low kind
    c.put_bytes-total.ensures.output_after
    check
