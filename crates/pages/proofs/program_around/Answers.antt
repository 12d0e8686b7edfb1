-- `pages::program_around` meets its contract: its two runs are the program. Assumes nothing.
use Rattle.std.proofs.Common.{◌≡◌, ◌-◌, length, take, ap, ◌∙◌, arith, zero-add}
use borrow.Rule.Slice.PartMut.{put_mid}
use lib.Seq.{length-take-le}
use Rattle.cells.specs.Each.{each}
use Rattle.pages.specs.Page.{anded_in}
use Rattle.pages.proofs.Pieces.{piece, anded_behind}
use Rattle.pages.proofs.Ways.{in_runs}
use Rattle.pages.proofs.program_around.Goals as goal

pub returns : goal.returns
returns c =
    let a = c.args in
    let page = a.page.now in
    let sent = a.sent.now in
    let n = length sent in
    let room = length page - a.start in
    let long : length (take room sent) ≡ room = length-take-le room sent (omega arith) in
    c.and_each-2.ensures ∙
    (ap (each (anded_in 0 (piece room n sent)))
    (ap (put_mid a.start room page) c.and_each.ensures ∙ anded_behind a.start (take room sent) page (omega (arith, long))) ∙
    rw (zero-add a.start) at (in_runs (length page) 0 a.start sent room room (n - room) (omega arith) (omega arith) (omega arith) (omega arith) page))
