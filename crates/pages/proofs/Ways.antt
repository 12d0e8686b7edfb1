-- A program without a page buffer, of data no longer than the page: no byte has to replace another, so each is ANDed at
-- its place at once, in straight runs. Assumes nothing.
use Prim.Native.Nat.{ℕ, ◌+◌, ◌-◌, ◌%◌, ◌<◌, ◌≤◌, min}
use mathlib.Core.List.{List}
use mathlib.Core.Path.{◌≡◌, sym, ap, ◌∙◌}
use native.Mathlib.Decide.{dec_lt}
use native.Mathlib.Nat.{add-zero, mod-eq_of_lt, add-mod_right}
use native.Mathlib.Omega.{arith}
use lib.Bits.{bit_and}
use lib.ListN.{length, get_or, take}
use lib.Seq.{get_or-take, length-take-le, take_all}
use Rattle.cells.specs.Each.{each}
use Rattle.pages.specs.Page.{anded_in, programmed}
use Rattle.cells.proofs.Places.{each_then, over_in, over_out}
use Rattle.cells.proofs.Runs.{range_in, range_before, range_behind}
use Rattle.pages.proofs.Programs.{covered_at}
use Rattle.pages.proofs.Aims.{last_aimed, none_aims}
use Rattle.pages.proofs.Pieces.{piece, piece_long, piece_at, anded_there, not_before, not_behind, none_left}

-- Data no longer than the page: as much as there is room for is ANDed in one run from `start` up to the page's end, and
-- what is left from the page's beginning on.
module _ (size page start : ℕ) (sent : List ℕ) (room straight left : ℕ) (c : length sent ≤ size)
    (r : start + room ≡ size) (a : straight ≡ min (length sent) room) (l : straight + left ≡ length sent) where
  abbrev run : List ℕ
  run = take straight sent

  abbrev rest : List ℕ
  rest = piece straight (length sent) sent

  run_long : length run ≡ straight
  run_long = length-take-le straight sent (omega arith)

  rest_long : length rest ≡ left
  rest_long = omega (arith, piece_long straight (length sent) sent (omega arith))

  -- what the program does at a place of the page
  module _ (k x j : ℕ) (low : page ≤ k) (high : k < page + size) (near : j < size)
      (e : (start + j) % size ≡ k - page) where
    hit : j < length sent → programmed size page start sent k x ≡ bit_and x (get_or sent j 0)
    hit m =
        over_in _ _ k x
        (rw (range_in page (page + size) k low high) (rw e at (covered_at size start (length sent) j m))) ∙
        ap (bit_and x) (last_aimed size start sent (length sent) j (k - page) 255 m (omega arith) e)

    missed : length sent ≤ j → programmed size page start sent k x ≡ x
    missed m =
        over_out _ _ k x
        (rw (range_in page (page + size) k low high) (none_aims size start (length sent) j (k - page) m near e))

  -- and what the two runs do: at a place before the start, where what is left aims
  before : (k x : ℕ) → page ≤ k → k < page + start → Dec (k < page + left)
      → anded_in page rest k (anded_in (page + start) run k x) ≡ programmed size page start sent k x
  before k x p q m = ap (anded_in page rest k) (not_before (page + start) run k x q) ∙ by m
    where
      j : ℕ
      j = k - page + room

      e : (start + j) % size ≡ k - page
      e = ap (λ (n : ℕ). n % size) (omega arith) ∙ (add-mod_right (k - page) size ∙ mod-eq_of_lt (omega arith))

      by : Dec (k < page + left) → anded_in page rest k x ≡ programmed size page start sent k x
      by (yes m) =
          anded_there page rest k x (k - page) (omega arith) (omega (arith, rest_long)) ∙
          (ap (bit_and x) (piece_at straight (length sent) sent (k - page) (omega arith)) ∙
          (ap (λ (i : ℕ). bit_and x (get_or sent i 0)) (omega arith) ∙
          sym (hit k x j p (omega arith) (omega arith) e (omega arith))))
      by (no m) =
          not_behind page rest k x (omega (arith, rest_long)) ∙
          sym (missed k x j p (omega arith) (omega arith) e (omega arith))

  -- from the start on, where the run goes
  onward : (k x : ℕ) → page + start ≤ k → k < page + size → Dec (k < page + start + straight)
      → anded_in page rest k (anded_in (page + start) run k x) ≡ programmed size page start sent k x
  onward k x p q m = not_behind page rest k (anded_in (page + start) run k x) (omega (arith, rest_long)) ∙ by m
    where
      j : ℕ
      j = k - (page + start)

      e : (start + j) % size ≡ k - page
      e = ap (λ (n : ℕ). n % size) (omega arith) ∙ mod-eq_of_lt (omega arith)

      by : Dec (k < page + start + straight) → anded_in (page + start) run k x ≡ programmed size page start sent k x
      by (yes m) =
          anded_there (page + start) run k x j (omega arith) (omega (arith, run_long)) ∙
          (ap (bit_and x) (get_or-take straight sent j 0 (omega arith)) ∙
          sym (hit k x j (omega arith) q (omega arith) e (omega arith)))
      by (no m) =
          not_behind (page + start) run k x (omega (arith, run_long)) ∙
          sym (missed k x j (omega arith) q (omega arith) e (omega arith))

  -- wherever the place is
  everywhere : (k x : ℕ) → Dec (k < page) → Dec (k < page + start) → Dec (k < page + size)
      → anded_in page rest k (anded_in (page + start) run k x) ≡ programmed size page start sent k x
  everywhere k x (yes p) q m =
      not_before page rest k (anded_in (page + start) run k x) p ∙
      (not_before (page + start) run k x (omega arith) ∙
      sym (over_out _ _ k x (rw (range_before page (page + size) k p))))
  everywhere k x (no p) (yes q) m = before k x (omega arith) q (dec_lt k (page + left))
  everywhere k x (no p) (no q) (yes m) = onward k x (omega arith) m (dec_lt k (page + start + straight))
  everywhere k x (no p) (no q) (no m) =
      not_behind page rest k (anded_in (page + start) run k x) (omega (arith, rest_long)) ∙
      (not_behind (page + start) run k x (omega (arith, run_long)) ∙
      sym (over_out _ _ k x (rw (range_behind page (page + size) k (omega arith)))))

  -- the two runs leave what the program leaves
  pub in_runs : (xs : List ℕ)
      → each (anded_in page rest) (each (anded_in (page + start) run) xs) ≡ each (programmed size page start sent) xs
  in_runs xs =
      each_then (anded_in page rest) (anded_in (page + start) run) (programmed size page start sent) xs
      (λ k l. everywhere k (get_or xs k 0) (dec_lt k page) (dec_lt k (page + start)) (dec_lt k (page + size)))

-- data that does not go past the page's end is ANDed in as it is
pub at_once : (size page start : ℕ) (sent xs : List ℕ) → start < size → length sent ≤ size - start
    → each (anded_in (page + start) sent) xs ≡ each (programmed size page start sent) xs
at_once size page start sent xs p q =
    let n : ℕ = length sent in
    let rest : List ℕ = piece n n sent in
    let none : length rest ≡ 0 = omega (arith, piece_long n n sent (omega arith)) in
    sym (none_left page rest (each (anded_in (page + start) sent) xs) none) ∙
    (ap (λ (run : List ℕ). each (anded_in page rest) (each (anded_in (page + start) run) xs))
    (sym (take_all n sent (omega arith))) ∙
    in_runs size page start sent (size - start) n 0 (omega arith) (omega arith) (omega arith) (add-zero n) xs)
