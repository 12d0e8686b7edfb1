-- `pages::program_buffered` meets its contract: the page buffer, loaded and ANDed in, is the program. Assumes nothing.
use Rattle.std.proofs.Common.{◌∙◌, arith, rules}
use Rattle.pages.proofs.Programs.{buffered_in_front}
use Rattle.pages.proofs.program_buffered.Goals as goal

pub returns : goal.returns
returns c = c.and_each.ensures ∙ buffered_in_front 256 _ _ _ _ _ (omega arith) c.load.ensures (λ k. search rules)
