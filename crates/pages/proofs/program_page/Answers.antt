-- `pages::program_page` meets its contract: data that does not go past the page's end wraps nowhere. Assumes nothing.
use Rattle.std.proofs.Common.{◌-◌, length, ap, ◌∙◌, arith, zero-add}
use borrow.Rule.Slice.PartMut.{put_mid}
use Rattle.pages.proofs.Pieces.{anded_behind}
use Rattle.pages.proofs.Ways.{at_once}
use Rattle.pages.proofs.program_page.Goals as goal

pub returns-then-sent-page : goal.returns-then-sent-page
returns-then-sent-page c =
    let a = c.args in
    let page = a.page.now in
    let n = length page in
    ap (put_mid a.start (n - a.start) page) c.and_in.ensures ∙
    (anded_behind a.start a.sent.now page (omega (arith, c.if-sent-page.true)) ∙
    rw (zero-add a.start) at (at_once n 0 a.start a.sent.now page c.requires.0 c.if-sent-page.true))
