-- `ihex_read::carry_out` meets its contract: each turn walks one line on and carries it out; no line has a fault.
-- Assumes nothing.
use Rattle.std.proofs.Common.{ℕ, ◌≡◌, ◌+◌, ◌-◌, ◌<◌, List, false, eqb, length, take, drop, length-drop}
use Rattle.std.proofs.Common.{refl, sym, ap, ◌∙◌, arith}
use borrow.Author.Tests.{eqb-true}
use Rattle.std.proofs.lemmas.List.{drop-drop}
use Rattle.std.proofs.lemmas.Bool.{eqb-false}
use Rattle.ihex_read.specs.Reader.{place_of}
use Rattle.ihex_read.proofs.Lines.{to_end}
use Rattle.ihex_read.proofs.Faults.{sound, good_whole}
use Rattle.ihex_read.proofs.Walks.{sets_out, faultless, goes_on, no_end, carries, carries_no_more, obeyed_long}
use Rattle.ihex_read.proofs.Walks.{next_inside, next_further}
use Rattle.ihex_read.proofs.carry_out.Goals as goal

pub loop-rest-init : goal.loop-rest-init
loop-rest-init c = record { at = 0; walk = sets_out _ _; here = refl; long = refl; so_far = refl }

-- a text that goes on past a place
more : (text rest : List ℕ) (at : ℕ) → rest ≡ drop at text → eqb (length rest) 0 ≡ false → at < length text
more text rest at e f = let some = eqb-false _ _ f in let l = ap length e in omega (arith, l, length-drop at text, some)

pub invariant_of-record : goal.invariant_of-record
invariant_of-record c =
    let so = c.loop-rest.invariant in
    let ahead = more _ _ _ so.here (sym c.is_empty.ensures ∙ c.loop-rest-test.true) in
    rw so.here (record { whole = good_whole _ _ _ (faultless so.walk ahead c.requires) })

pub returns-then-has_kind : goal.returns-then-has_kind
returns-then-has_kind c =
    let so = c.loop-rest.invariant in
    let ahead = more _ _ _ so.here (sym c.is_empty.ensures ∙ c.loop-rest-test.true) in
    let kind = rw so.here at (sym c.has_kind.ensures ∙ c.if-has_kind.true) in
    let done = rw so.here at so.so_far in
    sym (carries_no_more so.walk c.loop-rest.array ahead (eqb-true _ _ kind) c.requires) ∙ done

pub obey-requires : goal.obey-requires
obey-requires c =
    let so = c.loop-rest.invariant in
    let ahead = more _ _ _ so.here (sym c.is_empty.ensures ∙ c.loop-rest-test.true) in
    rw (so.here, so.long) (faultless so.walk ahead c.requires)

pub upper_behind-upper-requires : goal.upper_behind-upper-requires
upper_behind-upper-requires c =
    let so = c.loop-rest.invariant in
    let ahead = more _ _ _ so.here (sym c.is_empty.ensures ∙ c.loop-rest-test.true) in
    rw so.here (sound _ _ _ (faultless so.walk ahead c.requires))

pub slice_bounds-rest-count : goal.slice_bounds-rest-count
slice_bounds-rest-count c =
    let so = c.loop-rest.invariant in
    let next = rw so.here at c.next_line.ensures in
    omega (arith, next, next_inside so.walk, ap length so.here, length-drop so.at c.args.text.now)

pub slice_bounds-rest-start : goal.slice_bounds-rest-start
slice_bounds-rest-start c =
    let so = c.loop-rest.invariant in
    let next = rw so.here at c.next_line.ensures in
    omega (arith, next, next_inside so.walk, ap length so.here, length-drop so.at c.args.text.now)

-- the text behind the line is the text from the next place on
left : (text rest : List ℕ) (at n : ℕ) → rest ≡ drop at text → n ≡ place_of 1 (drop at text)
    → take (length rest - n) (drop n rest) ≡ drop (at + place_of 1 (drop at text)) text
left text rest at n e p = to_end rest n ∙ rw (e, p) (drop-drop (place_of 1 (drop at text)) at text)

pub loop-rest-smaller : goal.loop-rest-smaller
loop-rest-smaller c =
    let so = c.loop-rest.invariant in
    let text = c.args.text.now in
    let ahead : so.at < length text = more _ _ _ so.here (sym c.is_empty.ensures ∙ c.loop-rest-test.true) in
    let next = rw so.here at c.next_line.ensures in
    let behind = left text c.loop-rest.rest.now so.at c.next_line.result so.here next in
    omega (
      arith,
      ap length behind,
      ap length so.here,
      length-drop so.at text,
      length-drop (so.at + place_of 1 (drop so.at text)) text,
      next_further so.walk ahead,
    )

pub loop-rest-preserved : goal.loop-rest-preserved
loop-rest-preserved c =
    let so = c.loop-rest.invariant in
    let text = c.args.text.now in
    let ahead = more _ _ _ so.here (sym c.is_empty.ensures ∙ c.loop-rest-test.true) in
    let free = faultless so.walk ahead c.requires in
    let kind = rw so.here at (sym c.has_kind.ensures ∙ c.if-has_kind.false) in
    let next = rw so.here at c.next_line.ensures in
    let behind = left text c.loop-rest.rest.now so.at c.next_line.result so.here next in
    let upper = rw so.here at c.upper_behind-upper.ensures in
    let obeyed = rw so.here at c.obey.ensures in
    let so_far = rw so.here at so.so_far in
    record {
      at = so.at + place_of 1 (drop so.at text);
      walk = rw upper (goes_on so.walk ahead free (eqb-false _ _ kind));
      here = behind;
      long = rw obeyed (obeyed_long _ _ _ ∙ so.long);
      so_far = rw (behind, upper, obeyed) (sym (carries so.walk c.loop-rest.array ahead) ∙ so_far);
    }

pub returns : goal.returns
returns c =
    let so = c.loop-rest.invariant in
    let none = eqb-true _ _ (sym c.is_empty.ensures ∙ c.loop-rest-test.false) in
    absurd (no_end so.walk (omega (arith, none, ap length so.here, length-drop so.at c.args.text.now)) c.requires)
