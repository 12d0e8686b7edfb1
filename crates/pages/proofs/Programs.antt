-- The laws of a program: that a page buffer of FFh, loaded and ANDed into its page, is one, and which data bytes count;
-- said over the page's size. Assumes nothing.
use Prim.Native.Nat.{ℕ, zero, suc, ◌+◌, ◌-◌, ◌%◌, ◌<◌, ◌≤◌}
use mathlib.Core.Bool.{Bool, true, false, true≢false, false≢true, cond, ◌||◌, or-true}
use mathlib.Core.List.{List, ◌++◌}
use mathlib.Core.Path.{◌≡◌, refl, sym, ap, ◌∙◌}
use native.Mathlib.Decide.{ℕ_discrete}
use native.Mathlib.Nat.{add-zero, add-suc, add_assoc, not-suc-le-zero}
use native.Mathlib.Nat.{mod-lt, mod-eq_of_lt, mod-add-mod, add-mod-mod, add-mod_right}
use native.Mathlib.Omega.{arith}
use borrow.Author.Tests.{eq-eqb}
use lib.Bits.{bit_and, and_mask}
use lib.ListN.{length, get_or, take, drop, replicate, length-replicate, get_or-replicate}
use lib.Seq.{get_or-take, get_or-drop, length-take-le}
use Rattle.std.proofs.lemmas.List.{take-replicate, take-append-le}
use Rattle.cells.specs.Each.{each, over}
use Rattle.cells.specs.Range.{range}
use Rattle.pages.specs.Page.{aims, covered, last, loaded, anded_in, programmed}
use Rattle.cells.proofs.Places.{each_alike, get_or-each, length-each}
use Rattle.cells.proofs.Runs.{range_of_lem}

neither : (s t : Bool) → (s || t) ≡ false → (s ≡ false) × (t ≡ false)
neither true t e = absurd (true≢false e)
neither false t e = (refl, e)

-- an offset that no data byte aims at keeps what it had
pub last_uncovered : (size start : ℕ) (sent : List ℕ) (n p x : ℕ) → covered size start n p ≡ false
    → last size start sent n p x ≡ x
unfolding last covered
last_uncovered size start sent zero p x e = refl
last_uncovered size start sent (suc n) p x e =
    let w : (aims size start n p ≡ false) × (covered size start n p ≡ false) =
    neither (aims size start n p) (covered size start n p) e in
    rw w.0 (last_uncovered size start sent n p x w.1)

-- FFh changes no byte
and_ff : (x : ℕ) → x < 256 → bit_and x 255 ≡ x
and_ff x h = and_mask x 8 ∙ mod-eq_of_lt h

-- A page buffer of FFh, no shorter than the page, has received the data; the page takes as much of it as it has bytes.
module _ (size start width : ℕ) (sent whole : List ℕ)
    (filling : whole ≡ each (loaded size start sent) (replicate width 255)) (fits : size ≤ width) where
  abbrev buffer : List ℕ
  buffer = take size whole

  pub buffer_long : length buffer ≡ size
  buffer_long =
      let long : length whole ≡ width =
      ap length filling ∙ (length-each (loaded size start sent) (replicate width 255) ∙ length-replicate width 255) in
      length-take-le size whole (omega arith)

  holds : (p : ℕ) → p < size → get_or buffer p 0 ≡ last size start sent (length sent) p 255
  holds p l =
      let m : p < width = omega arith in
      get_or-take size whole p 0 l ∙
      (ap (λ (b : List ℕ). get_or b p 0) filling ∙
      (get_or-each (loaded size start sent) (replicate width 255) p 0 (rw (length-replicate {A = ℕ} width 255) m) ∙
      ap (last size start sent (length sent) p) (get_or-replicate width p 255 0 m)))

  -- ANDed in it is the program: where no data byte aims, its FFh changes nothing
  module _ (page : ℕ) (xs : List ℕ) (bytes : (k : ℕ) → get_or xs k 0 < 256) where
    aimed : (k x : ℕ) → x < 256 → k - page < size → (b : Bool) → covered size start (length sent) (k - page) ≡ b
        → bit_and x (get_or buffer (k - page) 0) ≡ cond b (bit_and x (last size start sent (length sent) (k - page) 255)) x
    aimed k x h l true c = rw (holds (k - page) l)
    aimed k x h l false c =
        rw (holds (k - page) l, last_uncovered size start sent (length sent) (k - page) 255 c) (and_ff x h)

    placed : (k x : ℕ) → x < 256 → (b : Bool) → range page (page + size) k ≡ b
        → anded_in page buffer k x ≡ programmed size page start sent k x
    unfolding over
    placed k x h false r = rw (buffer_long, r)
    placed k x h true r =
        let w : (page ≤ k) × (k < page + size) = range_of_lem page (page + size) k r in
        rw (buffer_long, r) (aimed k x h (omega arith) (covered size start (length sent) (k - page)) refl)

    pub buffered : each (anded_in page buffer) xs ≡ each (programmed size page start sent) xs
    buffered =
        each_alike (anded_in page buffer) (programmed size page start sent) xs
        (λ k l. placed k (get_or xs k 0) (bytes k) (range page (page + size) k) refl)

-- the same of a page buffer that is the front of a longer one
pub buffered_in_front : (width start : ℕ) (sent front rest xs : List ℕ) → length xs ≤ width
    → front ≡ each (loaded (length {A = ℕ} (take (length xs) (replicate width 255))) start sent) (take (length xs) (replicate width 255))
    → ((k : ℕ) → get_or xs k 0 < 256)
    → each (anded_in 0 (take (length xs) (front ++ rest))) xs ≡ each (programmed (length xs) 0 start sent) xs
buffered_in_front width start sent front rest xs fits filling bytes =
    let n = length xs in
    let filled : front ≡ each (loaded n start sent) (replicate n 255) =
    rw (take-replicate {X = ℕ} n width 255 fits, length-replicate {A = ℕ} n 255) at filling in
    let long : length front ≡ n =
    ap length filled ∙ (length-each (loaded n start sent) (replicate n 255) ∙ length-replicate n 255) in
    rw (take-append-le n front rest (omega (arith, long))) (buffered n start n sent front filled (omega arith) 0 xs bytes)

-- The data in two pieces: the second one replaces what the first one left.
last_split : (size start : ℕ) (sent : List ℕ) (m n p x : ℕ)
    → last size start sent (m + n) p x ≡ last size (start + m) (drop m sent) n p (last size start sent m p x)
unfolding last
last_split size start sent m zero p x = rw (add-zero m)
last_split size start sent m (suc n) p x =
    rw (add-suc m n, add_assoc start m n, get_or-drop m sent n 0, last_split size start sent m n p x)

-- what the buffer held does not matter where a data byte aims
last_covered : (size start : ℕ) (sent : List ℕ) (n p x y : ℕ) → covered size start n p ≡ true
    → last size start sent n p x ≡ last size start sent n p y
unfolding last covered
last_covered size start sent zero p x y e = absurd (false≢true e)
last_covered size start sent (suc n) p x y e = by (aims size start n p) (last_covered size start sent n p x y) e
  where
    by : (b : Bool) → (covered size start n p ≡ true → last size start sent n p x ≡ last size start sent n p y)
        → (b || covered size start n p) ≡ true
        → cond b (get_or sent n 0) (last size start sent n p x) ≡ cond b (get_or sent n 0) (last size start sent n p y)
    by true ih c = refl
    by false ih c = ih c

-- where the j-th data byte aims is covered
pub covered_at : (size start n j : ℕ) → j < n → covered size start n ((start + j) % size) ≡ true
unfolding covered
covered_at size start zero j l = absurd (not-suc-le-zero l)
covered_at size start (suc n) j l = by (ℕ_discrete j n) (covered_at size start n j)
  where
    by : Dec (j ≡ n) → (j < n → covered size start n ((start + j) % size) ≡ true)
        → covered size start (suc n) ((start + j) % size) ≡ true
    by (yes e) ih = rw (e, eq-eqb ((start + n) % size) ((start + n) % size) refl)
    by (no e) ih = rw (ih (omega arith)) (or-true (aims size start n ((start + j) % size)))

-- as many data bytes as the page has offsets aim at each of them
all_covered : (size start p : ℕ) → p < size → covered size start size p ≡ true
all_covered size start p l =
    let s : ℕ = start % size in
    let b : s < size = mod-lt start (omega arith) in
    let j : ℕ = (p + (size - s)) % size in
    let e : (start + j) % size ≡ p =
    add-mod-mod start (p + (size - s)) size ∙
    (sym (mod-add-mod start size (p + (size - s))) ∙
    (ap (λ (n : ℕ). n % size) (omega arith) ∙ (add-mod_right p size ∙ mod-eq_of_lt l))) in
    rw e at (covered_at size start size j (mod-lt (p + (size - s)) (omega arith)))

-- only the last data bytes count, as many as the page has offsets
pub only_the_last : (size start : ℕ) (sent : List ℕ) (n p x : ℕ) → size ≤ n → p < size
    → last size start sent n p x ≡ last size (start + (n - size)) (drop (n - size) sent) size p x
only_the_last size start sent n p x h l =
    let e : n ≡ n - size + size = omega arith in
    ap (λ (m : ℕ). last size start sent m p x) e ∙
    (last_split size start sent (n - size) size p x ∙
    last_covered size (start + (n - size)) (drop (n - size) sent) size p (last size start sent (n - size) p x) x
    (all_covered size (start + (n - size)) p l))
