-- `pages::and_four` meets its contract: four stores, each of an old byte ANDed. Assumes nothing.
use Rattle.pages.proofs.Pieces.{in_four}
use Rattle.pages.proofs.and_four.Goals as goal

pub returns : goal.returns
returns c = in_four 0 c.args.sent.now c.args.bytes.now c.requires.1 c.requires.0
