-- `watch::largest` meets its contract: it is the largest of the words so far. Assumes nothing.
use Rattle.std.proofs.Common.{◌≡◌, refl, ◌∙◌, ap, ℕ, add-one, length, rules}
use Rattle.std.proofs.lemmas.List.{length_push}
use Rattle.std.proofs.lemmas.Slice.Zip.{zip_turn, zip_end}
use Rattle.watch.specs.Watch.{top_before}
use Rattle.watch.proofs.largest.Goals as goal

pub loop-total-init : goal.loop-total-init
unfolding top_before
loop-total-init c = refl

pub loop-total-preserved : goal.loop-total-preserved
unfolding top_before
loop-total-preserved c =
    let a = c.loop-total in
    let here =
    zip_turn c.args.totals.now c.args.numbers.now a.yielded c.into_iter-total-iterator.result a.total-iterator
    c.next.new.self _ (search rules) (search rules) a.yielded_by _ c.in-Some.is c.next.ensures.steps in
    rw (
      length_push a.yielded (c.in-Some.total, c.in-Some.number),
      add-one (length a.yielded),
      c.max-top.ensures,
      c.max.ensures,
      here.2 0,
      here.3 0,
      a.invariant,
    )

pub returns : goal.returns
returns c =
    let a = c.loop-total in
    let seen =
    zip_end c.args.totals.now c.args.numbers.now a.yielded c.into_iter-total-iterator.result a.total-iterator
    c.next.new.self _ (search rules) (search rules) a.yielded_by c.in-None.is c.next.ensures.steps in
    let all_seen : length a.yielded ≡ 256 = search (rules, seen) in
    a.invariant ∙ ap (λ (n : ℕ). top_before n c.args.totals.now c.args.numbers.now) all_seen
