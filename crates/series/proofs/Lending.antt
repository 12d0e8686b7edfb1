-- The laws of lending: a memory that is lent whole is lent as it is, and what a call does to the bytes that it is lent it does to the
-- memory. Assumes nothing.
use Prim.Native.Nat.{ℕ, zero, suc, ◌<◌, ◌≤◌}
use mathlib.Core.List.{List, [], ◌∷◌}
use mathlib.Core.Path.{◌≡◌, refl, sym, ap, ◌∙◌}
use native.Mathlib.Decide.{dec_lt}
use native.Mathlib.Nat.{not-suc-le-zero, le_of_suc-le-suc}
use native.Mathlib.Omega.{arith}
use lib.ListN.{length, get_or, replicate, length-replicate}
use lib.Seq.{ext_get_or}
use Rattle.cells.specs.Each.{Cell, each, stored}
use Rattle.cells.specs.Range.{range}
use Rattle.cells.proofs.Places.{length-each, get_or-each, is_each, each_same, each_alike, over_in, over_out}
use Rattle.cells.proofs.Runs.{range_in, range_behind}
use Rattle.series.specs.Series.{lent_of, returned}

pub length-lent : (n : ℕ) (xs : List ℕ) (behind : ℕ → ℕ) → length (lent_of n xs behind) ≡ n
length-lent n xs behind = length-each (λ k x. get_or xs k (behind k)) (replicate n 0) ∙ length-replicate {A = ℕ} n 0

-- within the memory it does not matter what stands for a missing byte
get_or-within : (xs : List ℕ) (k d e : ℕ) → k < length xs → get_or xs k d ≡ get_or xs k e
get_or-within [] k d e l = absurd (not-suc-le-zero l)
get_or-within (x ∷ xs) zero d e l = refl
get_or-within (x ∷ xs) (suc k) d e l = get_or-within xs k d e (le_of_suc-le-suc l)

get_or-lent : (n : ℕ) (xs : List ℕ) (behind : ℕ → ℕ) (k : ℕ) → k < n → k < length xs → get_or (lent_of n xs behind) k 0 ≡ get_or xs k 0
get_or-lent n xs behind k l m =
    get_or-each (λ k x. get_or xs k (behind k)) (replicate n 0) k 0 (omega (arith, length-replicate {A = ℕ} n 0)) ∙ get_or-within xs k (behind k) 0 m

-- to lend a memory whole is to lend it as it is
pub lent_all : (n : ℕ) (xs : List ℕ) (behind : ℕ → ℕ) → n ≡ length xs → lent_of n xs behind ≡ xs
lent_all n xs behind e =
    ext_get_or 0 (lent_of n xs behind) xs (length-lent n xs behind ∙ e)
    (λ k l. let m : k < n = omega (arith, length-lent n xs behind) in get_or-lent n xs behind k m (omega arith))

-- a byte that was lent comes back to its place
came_back : (after : List ℕ) (k x : ℕ) → k < length after → stored (range 0 (length after)) (λ k. get_or after k 0) k x ≡ get_or after k 0
came_back after k x l = over_in (range 0 (length after)) (λ k x. get_or after k 0) k x (range_in 0 (length after) k (omega arith) l)

pub returned_all : (after xs : List ℕ) → length after ≡ length xs → returned after xs ≡ after
returned_all after xs e =
    sym (is_each (stored (range 0 (length after)) (λ k. get_or after k 0)) xs after e (λ k l. sym (came_back after k (get_or xs k 0) (omega arith))))

-- what is done to the lent bytes, and to nothing behind them, is done to the memory
pub returned_each : (f : Cell) (n : ℕ) (xs : List ℕ) (behind : ℕ → ℕ) → ((k x : ℕ) → n ≤ k → f k x ≡ x)
    → returned (each f (lent_of n xs behind)) xs ≡ each f xs
returned_each f n xs behind inside = each_alike (stored (range 0 (length after)) (λ k. get_or after k 0)) f xs (λ k l. by k l (dec_lt k n))
  where
    after : List ℕ
    after = each f (lent_of n xs behind)

    long : length after ≡ n
    long = length-each f (lent_of n xs behind) ∙ length-lent n xs behind

    by : (k : ℕ) → k < length xs → Dec (k < n) → stored (range 0 (length after)) (λ k. get_or after k 0) k (get_or xs k 0) ≡ f k (get_or xs k 0)
    by k m (yes l) =
        came_back after k (get_or xs k 0) (omega (arith, long)) ∙
        (get_or-each f (lent_of n xs behind) k 0 (omega (arith, length-lent n xs behind)) ∙ ap (f k) (get_or-lent n xs behind k l m))
    by k m (no l) =
        let past : n ≤ k = omega arith in
        over_out (range 0 (length after)) (λ k x. get_or after k 0) k (get_or xs k 0) (range_behind 0 (length after) k (omega (arith, long))) ∙
        sym (inside k (get_or xs k 0) past)

-- what is left as it was lent leaves the memory as it was
pub returned_same : (n : ℕ) (xs : List ℕ) (behind : ℕ → ℕ) → returned (lent_of n xs behind) xs ≡ xs
returned_same n xs behind =
    ap (λ (after : List ℕ). returned after xs) (each_same (lent_of n xs behind)) ∙
    (returned_each (λ k x. x) n xs behind (λ k x l. refl) ∙ sym (each_same xs))
