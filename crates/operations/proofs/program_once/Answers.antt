-- `operations::program_once` meets its contract: the user's bytes are a page of the register. Assumes nothing.
use Rattle.std.proofs.Common.{arith}
use Rattle.pages.proofs.Laws.{put_programmed}
use Rattle.operations.proofs.program_once.Goals as goal

pub returns : goal.returns
returns c =
    rw (c.address_of-start.ensures, c.behind.ensures) at
    (put_programmed 0 64 64 _ _ c.args.register.now _ (omega arith) (omega arith) c.program_page.ensures)
