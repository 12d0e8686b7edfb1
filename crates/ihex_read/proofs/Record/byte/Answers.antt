-- `ihex_read::Record::byte` meets its contract: the pair that was read is a byte of the line. Assumes nothing.
use Rattle.std.proofs.Common.{arith}
use Rattle.ihex_read.proofs.Whole.{whole_long, byte_small, same_asked, read_byte}
use Rattle.ihex_read.proofs.Record.byte.Goals as goal

pub byte_at-requires : goal.byte_at-requires
byte_at-requires c =
    let rest = c.args.self.now.rest.now in
    omega (arith, whole_long rest c.args.self.now.whole, same_asked rest c.args.self.now.whole)

pub overflow_cast-result : goal.overflow_cast-result
overflow_cast-result c =
    let rest = c.args.self.now.rest.now in
    let small =
    byte_small rest c.args.self.now.whole c.args.k (omega (arith, same_asked rest c.args.self.now.whole)) in
    omega (arith, small, c.byte_at.ensures.value small)

pub returns : goal.returns
returns c =
    let rest = c.args.self.now.rest.now in
    read_byte rest c.args.self.now.whole c.args.k (omega (arith, same_asked rest c.args.self.now.whole))
    c.byte_at.ensures.value
