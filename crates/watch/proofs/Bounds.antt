-- What a bound of the tables says: whether a word is above the limit, and how far the bound rises with the words.
-- Assumes nothing.
use Prim.Native.Nat.{ℕ, zero, suc, ◌<◌, ◌≤◌, max}
use mathlib.Core.Bool.{Bool, true, false, cond, ◌||◌, or-true}
use mathlib.Core.List.{List}
use mathlib.Core.Path.{◌≡◌, refl, sym, ◌∙◌}
use native.Mathlib.Decide.{ℕ_discrete, dec_lt}
use native.Mathlib.Nat.{not-suc-le-zero, le_refl, le_trans}
use native.Mathlib.Omega.{arith}
use borrow.Author.Tests.{lt-ltb, le-ltb, ltb-false}
use lib.Dec.{ltb}
use lib.ListN.{get_or}
use Rattle.ledger.specs.Ledger.{Ledger, limit, above_before, any_above}
use Rattle.watch.specs.Watch.{top_before, top, Bounded, watched}

-- each word is at most the largest
pub no_word_above : (n k : ℕ) (totals numbers : List ℕ) → k < n
    → (get_or totals k 0 ≤ top_before n totals numbers) × (get_or numbers k 0 ≤ top_before n totals numbers)
unfolding top_before
no_word_above zero k totals numbers l = absurd (not-suc-le-zero l)
no_word_above (suc n) k totals numbers l = by (ℕ_discrete k n) (no_word_above n k totals numbers)
  where
    most : ℕ
    most = top_before n totals numbers

    all : ℕ
    all = max (max (get_or totals n 0) (get_or numbers n 0)) most

    by : Dec (k ≡ n) → (k < n → (get_or totals k 0 ≤ most) × (get_or numbers k 0 ≤ most))
        → (get_or totals k 0 ≤ all) × (get_or numbers k 0 ≤ all)
    by (yes e) earlier = rw e (omega arith, omega arith)
    by (no e) earlier = let before = earlier (omega arith) in (omega (arith, before.0), omega (arith, before.1))

-- and the largest is at most what no word is above
pub top_most : (n bound : ℕ) (totals numbers : List ℕ)
    → ((k : ℕ) → k < n → (get_or totals k 0 ≤ bound) × (get_or numbers k 0 ≤ bound))
    → top_before n totals numbers ≤ bound
unfolding top_before
top_most zero bound totals numbers low = omega arith
top_most (suc n) bound totals numbers low =
    let here = low n (le_refl (suc n)) in
    let before : top_before n totals numbers ≤ bound = top_most n bound totals numbers (λ k l. low k (omega arith)) in
    omega (arith, here.0, here.1)

-- the largest word is above the limit exactly if a word is
pub top_above : (n : ℕ) (totals numbers : List ℕ)
    → ltb limit (top_before n totals numbers) ≡ above_before n totals || above_before n numbers
unfolding top_before above_before
top_above zero totals numbers = refl
top_above (suc n) totals numbers = by (dec_lt limit a) (dec_lt limit b) (above_before n totals) (above_before n numbers)
    (top_above n totals numbers)
  where
    a : ℕ
    a = get_or totals n 0

    b : ℕ
    b = get_or numbers n 0

    t : ℕ
    t = top_before n totals numbers

    by : Dec (limit < a) → Dec (limit < b) → (x y : Bool) → ltb limit t ≡ x || y
        → ltb limit (max (max a b) t) ≡ (ltb limit a || x) || (ltb limit b || y)
    by (yes p) q x y e = rw (lt-ltb limit a p, lt-ltb limit (max (max a b) t) (omega arith))
    by (no p) (yes q) x y e =
        rw (lt-ltb limit b q, lt-ltb limit (max (max a b) t) (omega arith), or-true (ltb limit a || x))
    by (no p) (no q) x y e = rw (le-ltb limit a (omega arith), le-ltb limit b (omega arith))
        (lower (dec_lt limit t) ∙ e)
      where
        lower : Dec (limit < t) → ltb limit (max (max a b) t) ≡ ltb limit t
        lower (yes l) = rw (lt-ltb limit t l, lt-ltb limit (max (max a b) t) (omega arith))
        lower (no l) = rw (le-ltb limit t (omega arith), le-ltb limit (max (max a b) t) (omega arith))

-- a bound that was watched says whether a word is above the limit, and is a bound again
pub watched_tells : (bound : ℕ) (l : Ledger) → Bounded bound l
    → (ltb limit (watched bound l.totals l.numbers) ≡ any_above l.totals || any_above l.numbers)
    × Bounded (watched bound l.totals l.numbers) l
watched_tells bound l low = by (ltb limit bound) refl
  where
    most : ℕ
    most = top l.totals l.numbers

    by : (b : Bool) → ltb limit bound ≡ b
        → (ltb limit (cond b most bound) ≡ any_above l.totals || any_above l.numbers) × (most ≤ cond b most bound)
    by true e = (top_above 256 l.totals l.numbers, le_refl most)
    by false e =
        let short : most ≤ limit = le_trans low (ltb-false limit bound e) in
        (e ∙ (sym (le-ltb limit most short) ∙ top_above 256 l.totals l.numbers), low)
