-- `pages::load` meets its contract: the first run, and each turn one run more. Assumes nothing.
use Rattle.std.proofs.Common.{◌≡◌, ◌+◌, min, length, ◌∙◌, arith, rules}
use Rattle.std.specs.Slice.Iter.{chunks_rest}
use Rattle.pages.proofs.Loads.{first_run, left_then, next_run}
use Rattle.pages.proofs.load.Goals as goal

pub loop-part-init : goal.loop-part-init
loop-part-init c = record {
  can_next = search rules;
  is_finite = tt;
  size = search rules;
  loading = (
    c.min.result,
    search rules,
    first_run _ _ _ _ _ _ _ (omega arith) (omega arith) c.min.ensures c.split_at.ensures.front c.copy_from_slice.ensures.after,
  );
}

pub loop-part-preserved : goal.loop-part-preserved
loop-part-preserved c =
    let i = c.loop-part.invariant in
    let so_far = i.loading in
    let steps = c.in-Some.ensures.steps in
    let part = c.in-Some.part.now in
    let rest = chunks_rest c.next.new.self in
    let left = chunks_rest c.loop-part.part-iterator in
    let long : length part ≡ min (length c.args.buffer.now) (length left) = rw i.size at steps.1.1 in
    record {
      can_next = search rules;
      is_finite = tt;
      size = steps.0 ∙ i.size;
      loading = (
        so_far.0 + length part,
        left_then so_far.2 part rest left so_far.1 steps.1.0 long,
        next_run so_far.2 part rest left so_far.1 steps.1.0 long (omega arith) _ c.copy_from_slice-in-loop-part.ensures.after,
      );
    }
