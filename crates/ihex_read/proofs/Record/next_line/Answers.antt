-- `ihex_read::Record::next_line` meets its contract: behind a whole record comes nothing, LF, or CR and LF. Assumes
-- nothing.
use Rattle.std.proofs.Common.{ℕ, ◌≡◌, ◌+◌, ◌*◌, ◌≤◌, true, List, length, drop, ◌∙◌, arith}
use borrow.Author.Tests.{eq-eqb, ne_eqb}
use Rattle.ihex_layout.specs.Layout.{byte_at, length_of}
use Rattle.ihex_read.specs.Reader.{lines_in, first, is_whole, is_end, place_of}
use Rattle.ihex_read.proofs.Lines.{ending_none, ending_lf, ending_cr}
use Rattle.ihex_read.proofs.Whole.{whole_long, same_byte, whole_far}
use Rattle.ihex_read.proofs.Record.next_line.Goals as goal

-- the end of the line's pairs lies in the text, and an ending stands there, behind which the next line begins
far : (rest : List ℕ) (n : ℕ) → is_whole (first (lines_in rest)) ≡ true → n ≡ length_of (first (lines_in rest))
    → (2 * n + 11 ≤ length rest) × (is_end (drop (2 * n + 11) rest) ≡ true)
    × (place_of 1 rest ≡ 2 * n + 11 + place_of 1 (drop (2 * n + 11) rest))
far rest n e r =
    let p : n ≡ byte_at rest 0 = r ∙ same_byte rest e 0 (omega arith) in
    let w = whole_far rest e n p in
    (omega (arith, whole_long rest e), w.0, w.1)

pub returns-then-end-rest : goal.returns-then-end-rest
returns-then-end-rest c =
    let w = far c.args.self.now.rest.now _ c.args.self.now.whole (c.from.ensures ∙ c.byte.ensures) in
    omega (arith, ending_none c.args.self.now.rest.now (2 * c.from.result + 11) (omega arith))

pub bounds-rest-end : goal.bounds-rest-end
bounds-rest-end c =
    let w = far c.args.self.now.rest.now _ c.args.self.now.whole (c.from.ensures ∙ c.byte.ensures) in omega arith

pub returns-then-rest-end-eq10 : goal.returns-then-rest-end-eq10
returns-then-rest-end-eq10 c =
    let w = far c.args.self.now.rest.now _ c.args.self.now.whole (c.from.ensures ∙ c.byte.ensures) in
    omega (
      arith,
      ending_lf c.args.self.now.rest.now (2 * c.from.result + 11) (omega arith) (eq-eqb _ _ c.if-rest-end-eq10.true),
    )

pub returns-else-rest-end-eq10 : goal.returns-else-rest-end-eq10
returns-else-rest-end-eq10 c =
    let w = far c.args.self.now.rest.now _ c.args.self.now.whole (c.from.ensures ∙ c.byte.ensures) in
    let e =
    ending_cr c.args.self.now.rest.now (2 * c.from.result + 11) (omega arith) w.1
    (ne_eqb _ _ c.if-rest-end-eq10.false) in
    omega arith
