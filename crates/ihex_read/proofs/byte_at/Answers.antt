-- `ihex_read::byte_at` meets its contract: the two digits of a pair. Assumes nothing.
use Rattle.ihex_read.proofs.Whole.{byte_read}
use Rattle.ihex_read.proofs.byte_at.Goals as goal

pub returns-clause-value : goal.returns-clause-value
returns-clause-value c = byte_read c.args.rest.now c.args.k _ _ c.digit_of.ensures.value c.digit_of-2.ensures.value
