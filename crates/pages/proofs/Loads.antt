-- Loading a page buffer in straight runs: a run is stored over what the bytes before it left, and goes up to the page's
-- end at most. Assumes nothing.
use Prim.Native.Nat.{ℕ, zero, suc, ◌+◌, ◌-◌, ◌%◌, ◌<◌, ◌≤◌, min}
use mathlib.Core.List.{List, ◌++◌}
use mathlib.Core.Path.{◌≡◌, refl, sym, ap, ◌∙◌}
use native.Mathlib.Decide.{ℕ_discrete}
use native.Mathlib.Nat.{add-zero, zero-add, add-suc, add_assoc, mod-add-mod, mod-eq_of_lt, mod_self}
use native.Mathlib.Omega.{arith}
use borrow.Author.Tests.{eq-eqb, ne_eqb}
use borrow.Rule.Slice.PartMut.{put_mid}
use lib.ListN.{length, get_or, take, drop, length-drop, get_or-append}
use lib.Seq.{get_or-take, get_or-drop, length-take-le, drop-drop, drop_at}
use Rattle.cells.specs.Each.{each}
use Rattle.cells.specs.Range.{run}
use Rattle.pages.specs.Page.{last}
use Rattle.cells.proofs.Places.{each_then, is_each, length-each, over_in, over_out, over_alike}
use Rattle.cells.proofs.Runs.{range_in, range_more, range_none, put_stored}

-- Where the data byte `at` aims at `next`,
module _ (size start at next : ℕ) where
  -- those behind it aim at the places behind that one, wrapped
  onward : next ≡ (start + at) % size → (i : ℕ) → (start + (at + i)) % size ≡ (next + i) % size
  onward here i =
      ap (λ (n : ℕ). n % size) (sym (add_assoc start at i)) ∙
      (sym (mod-add-mod (start + at) size i) ∙ ap (λ (n : ℕ). (n + i) % size) (sym here))

  -- so a run of them that ends in the page is stored as it is
  run_loads : (sent : List ℕ) (k x n : ℕ) → (0 < n → next ≡ (start + at) % size) → next + n ≤ size
      → run next (next + n) sent at k (last size start sent at k x) ≡ last size start sent (at + n) k x
  unfolding last
  run_loads sent k x zero here l = rw (add-zero next, add-zero at) (over_out _ _ k _ (range_none next k))
  run_loads sent k x (suc n) here l = by (ℕ_discrete k (next + n)) (run_loads sent k x n (λ p. here (omega arith)) (omega arith))
    where
      y : ℕ
      y = last size start sent at k x

      aim : (start + (at + n)) % size ≡ next + n
      aim = onward (here (omega arith)) n ∙ mod-eq_of_lt (omega arith)

      by : Dec (k ≡ next + n) → run next (next + n) sent at k y ≡ last size start sent (at + n) k x
          → run next (next + suc n) sent at k y ≡ last size start sent (at + suc n) k x
      by (yes e) ih =
          let there : k - next ≡ n = omega arith in
          rw (add-suc at n, eq-eqb ((start + (at + n)) % size) k (aim ∙ sym e))
          (over_in _ _ k y (range_in next (next + suc n) k (omega arith) (omega arith)) ∙
          ap (λ (i : ℕ). get_or sent (at + i) 0) there)
      by (no e) ih =
          let more : next + suc n ≡ next + n + 1 = omega arith in
          rw (more, add-suc at n, ne_eqb ((start + (at + n)) % size) k (λ d. e (sym d ∙ aim)))
          (over_alike _ _ _ _ k y (range_more next (next + n) k e) (λ c. refl) ∙ ih)

-- The buffer has received the first `at` data bytes; the next one aims at `next`, unless there is none.
pub record Loading (size start : ℕ) (sent xs : List ℕ) (at next : ℕ) (ys : List ℕ) : Type 0 where
  pub high : at ≤ length sent
  pub inside : next < size
  pub here : at < length sent → next ≡ (start + at) % size
  pub so_far : ys ≡ each (last size start sent at) xs

-- with nothing loaded yet it is as it was
pub load_begins : (size start : ℕ) (sent xs : List ℕ) → start < size → Loading size start sent xs 0 start xs
unfolding last
load_begins size start sent xs l =
    record {
      high = omega arith;
      inside = l;
      here = λ t. sym (ap (λ (n : ℕ). n % size) (add-zero start) ∙ mod-eq_of_lt l);
      so_far = is_each (last size start sent 0) xs xs refl (λ k l. refl);
    }

module _ {size start : ℕ} {sent xs : List ℕ} {at next : ℕ} {ys : List ℕ}
    (r : Loading size start sent xs at next ys) where
  -- its length stays
  pub load_long : length ys ≡ length xs
  load_long = ap length r.so_far ∙ length-each (last size start sent at) xs

  -- one run more, to the data's end or the page's
  pub loads_on : (n : ℕ) (zs : List ℕ) → n ≡ min (length sent - at) (size - next)
      → zs ≡ each (run next (next + n) sent at) ys → Loading size start sent xs (at + n) 0 zs
  loads_on n zs w z =
      let l : next < size = r.inside in
      record {
        high = omega arith;
        inside = omega arith;
        here =
            λ s.
            let full : next + n ≡ size = omega arith in
            sym (onward size start at next (r.here (omega arith)) n ∙ (ap (λ (i : ℕ). i % size) full ∙ mod_self size));
        so_far =
            z ∙
            (ap (each (run next (next + n) sent at)) r.so_far ∙
            each_then (run next (next + n) sent at) (last size start sent at) (last size start sent (at + n)) xs
            (λ k m. run_loads size start at next sent k (get_or xs k 0) n (λ p. r.here (omega arith)) (omega arith)));
      }

  -- at the end it has received all
  pub all_loaded : length sent ≤ at → ys ≡ each (last size start sent (length sent)) xs
  all_loaded l = let e : at ≡ length sent = omega (arith, r.high) in rw e at r.so_far

-- a part of the buffer that receives data bytes, the first of them the one at `at`, has received a run of them
put_run : (next n at : ℕ) (sent xs ys : List ℕ) → next + n ≤ length xs → length ys ≡ n → ((j : ℕ) → j < n → get_or ys j 0 ≡ get_or sent (at + j) 0)
    → put_mid next n xs ys ≡ each (run next (next + n) sent at) xs
put_run next n at sent xs ys l e h =
    let there : next + n - next ≡ n = omega arith in
    rw there at
    (put_stored next (next + n) (λ k. get_or sent (at + (k - next)) 0) xs ys (omega arith) l (omega (arith, e)) (λ k p q. h (k - next) (omega arith)))

-- The first run goes up to the data's end or the page's,
pub first_run : (size start n : ℕ) (sent xs front ys : List ℕ) → start < size → size ≤ length xs → n ≡ min (length sent) (size - start) → front ≡ take n sent → ys ≡ front
    → Loading size start sent xs n 0 (put_mid start (start + length front - start) xs ys)
first_run size start n sent xs front ys p q w f e =
    let long : length front ≡ n = ap length f ∙ length-take-le n sent (omega arith) in
    let there : start + length front - start ≡ n = omega (arith, long) in
    rw there
    (rw (zero-add n) at
    (loads_on (load_begins size start sent xs p) n (put_mid start n xs ys) (omega arith)
    (put_run start n 0 sent xs ys (omega arith) (ap length e ∙ long) (λ j l. rw (e, f, zero-add j) (get_or-take n sent j 0 l)))))

-- and each later one is a part of what is left, from the page's beginning on.
module _ {size start : ℕ} {sent xs : List ℕ} {at : ℕ} {ys : List ℕ} (r : Loading size start sent xs at 0 ys)
    (part rest left : List ℕ) (here : left ≡ drop at sent) (cut : left ≡ part ++ rest) (w : length part ≡ min size (length left)) where
  abbrev pub n : ℕ
  n = length part

  pub left_then : rest ≡ drop (at + n) sent
  left_then = sym (drop_at part rest n refl) ∙ (ap (drop n) (sym cut ∙ here) ∙ drop-drop n at sent)

  pub next_run : size ≤ length xs → (zs : List ℕ) → zs ≡ part → Loading size start sent xs (at + n) 0 (zs ++ drop n ys)
  next_run q zs e =
      let count : length left ≡ length sent - at = ap length here ∙ length-drop at sent in
      rw e
      (loads_on r n (part ++ drop n ys) (omega (arith, count, w))
      (put_run 0 n at sent ys part (omega (arith, load_long r, w)) refl
      (λ j l. sym (get_or-append part rest 0 j l) ∙ (ap (λ (zs : List ℕ). get_or zs j 0) (sym cut ∙ here) ∙ get_or-drop at sent j 0))))
