-- `ledger::gathered` meets its contract: as long as a table's bits are not above the limit, no word of it so far is.
-- Assumes nothing.
use Rattle.std.proofs.Common.{◌≡◌, ℕ, false, refl, subst, length, rules, add-one}
use Rattle.std.proofs.Math.Nat.{le_trans}
use Rattle.std.proofs.lemmas.List.{length_push}
use Rattle.std.proofs.lemmas.Slice.Zip.{zip_turn, zip_end}
use Rattle.ledger.specs.Ledger.{above_before}
use Rattle.ledger.proofs.Above.{or_left, or_right, low_next}
use Rattle.ledger.proofs.gathered.Goals as goal

pub loop-word-init : goal.loop-word-init
unfolding above_before
loop-word-init c = (λ l. refl, λ l. refl)

pub loop-word-preserved : goal.loop-word-preserved
loop-word-preserved c =
    let a = c.loop-word in
    let here =
    zip_turn c.args.table.now c.args.also.now a.yielded c.into_iter-word-iterator.result a.word-iterator c.next.new.self _ (search rules) (search rules) a.yielded_by _
    c.in-Some.is c.next.ensures.steps in
    rw (length_push a.yielded (c.in-Some.word, c.in-Some.other), add-one (length a.yielded), here.2 0, here.3 0) (
      low_next (length a.yielded) a.one c.args.table.now a.invariant.0,
      low_next (length a.yielded) a.two c.args.also.now a.invariant.1,
    )

pub returns : goal.returns
returns c l =
    let a = c.loop-word in
    let seen =
    zip_end c.args.table.now c.args.also.now a.yielded c.into_iter-word-iterator.result a.word-iterator c.next.new.self _ (search rules) (search rules) a.yielded_by c.in-None.is
    c.next.ensures.steps in
    let all_seen : length a.yielded ≡ 256 = search (rules, seen) in
    subst (λ (n : ℕ). (above_before n c.args.table.now ≡ false) × (above_before n c.args.also.now ≡ false)) all_seen
    (a.invariant.0 (le_trans (or_left a.one a.two) l), a.invariant.1 (le_trans (or_right a.one a.two) l))
