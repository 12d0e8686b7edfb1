-- A whole record: what the reader finds in the text from the line's first character on, and what the line says, are the same. Assumes nothing.
use Prim.Native.Nat.{ℕ, zero, suc, ◌+◌, ◌-◌, ◌*◌, ◌/◌, ◌<◌, ◌≤◌}
use mathlib.Core.Bool.{Bool, true, false, true≢false, ◌&&◌, and-eq-true_iff}
use mathlib.Core.List.{List}
use mathlib.Core.Path.{◌≡◌, refl, sym, ap, ◌∙◌}
use native.Mathlib.Decide.{dec_lt, ℕ_discrete}
use native.Mathlib.Omega.{arith}
use borrow.Author.Tests.{ltb-true, ltb-false, eqb-true, eq-eqb, ne_eqb}
use lib.Dec.{eqb, ltb}
use lib.ListN.{length, get_or, drop, get_or-eq_default}
use Rattle.std.specs.Prelude.{cond, Option, Some, None, is_some, unwrap_or}
use Rattle.ihex_layout.specs.Layout.{colon, line_feed, carriage_return, digit_of, byte_at, length_of, asked, sum_of}
use Rattle.ihex_read.specs.Reader.{lines_in, first, is_end, place_of, pairs, is_whole}
use Rattle.ihex_read.proofs.Lines.{first_long, first_reads, first_ends, first_is, place_first}

-- a character with this number is no digit
not_digit : (c n : ℕ) → digit_of n ≡ 256 → digit_of c < 256 → c ≡ n → ⊥
not_digit c n e l p = let f : digit_of c ≡ 256 = ap digit_of p ∙ e in omega arith

-- so a digit is neither LF nor CR, and not past the end of a text
digit_inner : (c : ℕ) → digit_of c < 256 → (eqb c line_feed ≡ false) × (eqb c carriage_return ≡ false)
unfolding digit_of
digit_inner c l = (ne_eqb c line_feed (not_digit c line_feed refl l), ne_eqb c carriage_return (not_digit c carriage_return refl l))

digit_inside : (text : List ℕ) (k : ℕ) → digit_of (get_or text k 0) < 256 → k < length text
unfolding digit_of
digit_inside text k l = by (dec_lt k (length text))
  where
    by : Dec (k < length text) → k < length text
    by (yes p) = p
    by (no p) = absurd (not_digit (get_or text k 0) 0 refl l (get_or-eq_default text 0 {n = k} (omega arith)))

-- the two digits of a pair
pair_digits : (text : List ℕ) (k : ℕ) → byte_at text k < 256 → (digit_of (get_or text (2 * k + 1) 0) < 256) × (digit_of (get_or text (2 * k + 2) 0) < 256)
unfolding byte_at
pair_digits text k l = (omega arith, omega arith)

-- what was read of a pair's two characters, if they are digits, is the pair
pub byte_read : (text : List ℕ) (k h l : ℕ)
    → (digit_of (get_or text (2 * k + 1) 0) < 256 → h ≡ digit_of (get_or text (2 * k + 1) 0))
    → (digit_of (get_or text (2 * k + 2) 0) < 256 → l ≡ digit_of (get_or text (2 * k + 2) 0)) → byte_at text k < 256
    → h * 16 + l ≡ byte_at text k
unfolding byte_at
byte_read text k h l f g m = let w = pair_digits text k m in rw (f w.0, g w.1) refl

-- each of n pairs is one
pair_of : (text : List ℕ) (n k : ℕ) → pairs text n ≡ true → k < n → byte_at text k < 256
unfolding pairs
pair_of text zero k e l = absurd (omega arith)
pair_of text (suc n) k e l = by (ℕ_discrete k n) ((and-eq-true_iff (pairs text n) (ltb (byte_at text n) 256)).0 e) (pair_of text n k)
  where
    by : Dec (k ≡ n) → (pairs text n ≡ true) × (ltb (byte_at text n) 256 ≡ true) → (pairs text n ≡ true → k < n → byte_at text k < 256) → byte_at text k < 256
    by (yes p) w h = rw p (ltb-true (byte_at text n) 256 w.1)
    by (no p) w h = h w.0 (omega arith)

-- pairs lie in the text
pairs_inside : (text : List ℕ) (n k : ℕ) → pairs text n ≡ true → k < n → 2 * k + 2 < length text
pairs_inside text n k e l = digit_inside text (2 * k + 2) (pair_digits text k (pair_of text n k e l)).1

-- and end no line
pairs_inner : (text : List ℕ) (n k : ℕ) → pairs text n ≡ true → 0 < k → k < 2 * n + 1
    → (eqb (get_or text k 0) line_feed ≡ false) × (eqb (get_or text k 0) carriage_return ≡ false)
pairs_inner text n k e p l = by (ℕ_discrete (2 * ((k + 1) / 2)) (k + 1))
  where
    by : Dec (2 * ((k + 1) / 2) ≡ k + 1) → (eqb (get_or text k 0) line_feed ≡ false) × (eqb (get_or text k 0) carriage_return ≡ false)
    by (yes q) =
        let h : 2 * ((k + 1) / 2 - 1) + 1 ≡ k = omega arith in
        digit_inner (get_or text k 0)
        (rw (ap (λ (j : ℕ). get_or text j 0) h) at (pair_digits text ((k + 1) / 2 - 1) (pair_of text n ((k + 1) / 2 - 1) e (omega arith))).0)
    by (no q) =
        let h : 2 * (k / 2 - 1) + 2 ≡ k = omega arith in
        digit_inner (get_or text k 0)
        (rw (ap (λ (j : ℕ). get_or text j 0) h) at (pair_digits text (k / 2 - 1) (pair_of text n (k / 2 - 1) e (omega arith))).1)

-- two tests that come out true together are the same
agree : (a b : Bool) → (a ≡ true → b ≡ true) → (b ≡ true → a ≡ true) → a ≡ b
agree true b f g = sym (f refl)
agree false true f g = g refl
agree false false f g = refl

-- What a text says of its first line, as far as the line goes.
module _ (text : List ℕ) where
  abbrev line : List ℕ
  line = first (lines_in text)

  byte_line : (k : ℕ) → 2 * k + 2 < length line → byte_at line k ≡ byte_at text k
  unfolding byte_at
  byte_line k l = rw (first_reads text (2 * k + 1) (omega arith), first_reads text (2 * k + 2) l)

  pairs_line : (n : ℕ) → 2 * n < length line → pairs line n ≡ pairs text n
  unfolding pairs
  pairs_line zero l = refl
  pairs_line (suc n) l = rw (pairs_line n (omega arith), byte_line n (omega arith))

  sum-line : (n : ℕ) → 2 * n < length line → sum_of line n ≡ sum_of text n
  unfolding sum_of
  sum-line zero l = refl
  sum-line (suc n) l = rw (sum-line n (omega arith), byte_line n (omega arith))

  -- What the reader looks for from the line's first character on: the colon, the pairs, and an ending behind them.
  record Standing : Type 0 where
    pub colon_first : get_or text 0 0 ≡ colon
    pub paired : pairs text (asked text) ≡ true
    pub ends : is_end (drop (2 * asked text + 1) text) ≡ true

  -- where that stands the line is just as long
  long : Standing → length line ≡ 2 * asked text + 1
  long s =
      first_is (2 * asked text + 1) text (let l : 2 * (length_of text + 4) + 2 < length text = pairs_inside text (asked text) (length_of text + 4) s.paired (omega arith) in omega arith)
      (λ k l. by k l (ℕ_discrete k 0)) s.ends
    where
      by : (k : ℕ) → k < 2 * asked text + 1 → Dec (k ≡ 0) → (eqb (get_or text k 0) line_feed ≡ false) × (eqb (get_or text k 0) carriage_return ≡ false)
      by k l (yes p) = rw (p, s.colon_first) (refl, refl)
      by k l (no p) = pairs_inner text (asked text) k s.paired (omega arith) l

  same_length : 2 < length line → asked line ≡ asked text
  same_length l = ap (λ (n : ℕ). n + 5) (byte_line 0 l)

  -- so the line is whole
  standing_whole : Standing → is_whole line ≡ true
  unfolding is_whole
  standing_whole s =
      let l : length line ≡ 2 * asked text + 1 = long s in
      let a : asked line ≡ asked text = same_length (omega arith) in
      rw (first_reads text 0 (omega arith), s.colon_first, a, l, eq-eqb (2 * asked text + 1) (2 * asked text + 1) refl)
      (pairs_line (asked text) (omega arith) ∙ s.paired)

  -- and a whole line stands in the text
  whole_standing : is_whole line ≡ true → Standing
  unfolding is_whole
  whole_standing e =
      let both = (and-eq-true_iff (eqb (get_or line 0 0) colon && eqb (length line) (2 * asked line + 1)) (pairs line (asked line))).0 e in
      let front = (and-eq-true_iff (eqb (get_or line 0 0) colon) (eqb (length line) (2 * asked line + 1))).0 both.0 in
      let l : length line ≡ 2 * asked line + 1 = eqb-true (length line) (2 * asked line + 1) front.1 in
      let a : asked line ≡ asked text = same_length (omega arith) in
      record {
        colon_first = sym (first_reads text 0 (omega arith)) ∙ eqb-true (get_or line 0 0) colon front.0;
        paired = rw (a, pairs_line (asked text) (omega arith)) at both.1;
        ends = rw (l, a) at (first_ends text);
      }

  -- where it does not stand there the line is not whole
  not_standing : (Standing → ⊥) → is_whole line ≡ false
  not_standing h = by (is_whole line) refl
    where
      by : (b : Bool) → is_whole line ≡ b → b ≡ false
      by true e = absurd (h (whole_standing e))
      by false e = refl

  -- so a text that is too short for the length, or a length that is no pair of digits
  too_short : length text < 2 * asked text + 1 → is_whole line ≡ false
  too_short l =
      not_standing (λ s. omega (arith, pairs_inside text (asked text) (length_of text + 4) s.paired (omega arith)))

  no_length : ltb (length_of text) 256 ≡ false → is_whole line ≡ false
  no_length z =
      not_standing (λ s.
      omega (arith, pair_of text (asked text) 0 s.paired (omega arith), ltb-false (length_of text) 256 z))

  -- What is known where the line is whole.
  module _ (e : is_whole line ≡ true) where
    here : length line ≡ 2 * asked text + 1
    here = long (whole_standing e)

    -- its pairs lie in the text
    pub whole_long : 2 * length_of text + 11 ≤ length text
    whole_long = let l : length line ≤ length text = first_long text in omega (arith, here)

    -- eleven characters at least
    pub whole_some : 10 < length text
    whole_some = omega (arith, whole_long)

    -- and are bytes
    pub byte_small : (k : ℕ) → k < asked text → byte_at text k < 256
    byte_small k l = pair_of text (asked text) k (whole_standing e).paired l

    -- which are the line's
    pub same_byte : (k : ℕ) → k < asked text → byte_at line k ≡ byte_at text k
    same_byte k l = byte_line k (omega (arith, here))

    -- so the line asks for as many
    pub same_asked : asked line ≡ asked text
    same_asked = ap (λ (n : ℕ). n + 5) (same_byte 0 (omega arith))

    -- what was read of one if it is a byte is the line's byte
    pub read_byte : (k : ℕ) {r : ℕ} → k < asked text → (byte_at text k < 256 → r ≡ byte_at text k) → r ≡ byte_at line k
    read_byte k l f = f (byte_small k l) ∙ sym (same_byte k l)

    -- and so they add up
    same_sum : sum_of line (asked line) ≡ sum_of text (asked text)
    same_sum = rw (same_length (omega (arith, here))) (sum-line (asked text) (omega (arith, here)))

    -- where it ends, and where the next line begins
    pub whole_far : (n : ℕ) → n ≡ length_of text
        → (is_end (drop (2 * n + 11) text) ≡ true)
        × (place_of 1 text ≡ 2 * n + 11 + place_of 1 (drop (2 * n + 11) text))
    whole_far n p =
        let far : 2 * asked text + 1 ≡ 2 * n + 11 = omega arith in
        (rw far at (whole_standing e).ends, rw (here, far) at (place_first text))

  -- What is found of the record: what its bytes add up to, if the line is whole.
  abbrev pub found : Option ℕ
  found = cond (is_whole line) (Some (sum_of line (asked line))) None

  -- so what was found says it all
  pub found_some : (t : ℕ) → found ≡ Some t → (is_whole line ≡ true) × (t ≡ sum_of line (asked line))
  found_some t e = by (is_whole line) refl e
    where
      by : (b : Bool) → is_whole line ≡ b → cond b (Some (sum_of line (asked line))) None ≡ Some t
          → (is_whole line ≡ true) × (t ≡ sum_of line (asked line))
      by true w f = (w, sym (ap (λ (o : Option ℕ). unwrap_or o 0) f))
      by false w f = absurd (true≢false (sym (ap is_some f)))

  pub found_none : found ≡ None → is_whole line ≡ false
  found_none e = by (is_whole line) refl e
    where
      by : (b : Bool) → is_whole line ≡ b → cond b (Some (sum_of line (asked line))) None ≡ None → is_whole line ≡ false
      by true w f = absurd (true≢false (ap is_some f))
      by false w f = w

  -- nothing is found in a text that is too short for the length, or where the length is no pair of digits
  pub found_short : length text < 2 * asked text + 1 → None ≡ found
  found_short l = rw (too_short l)

  pub found_lengthless : ltb (length_of text) 256 ≡ false → None ≡ found
  found_lengthless z = rw (no_length z)

  -- nor without the colon, or without an end behind the pairs
  pub found_colonless : (get_or text 0 0 ≡ colon → ⊥) → None ≡ found
  found_colonless f = rw (not_standing (λ s. f s.colon_first))

  pub found_endless : (n : ℕ) → n ≡ length_of text → is_end (drop (2 * n + 11) text) ≡ false → None ≡ found
  found_endless n p f =
      let e : 2 * n + 11 ≡ 2 * asked text + 1 = omega arith in
      rw (not_standing (λ s. true≢false (sym s.ends ∙ (rw e at f))))

  -- with the colon and the line's end, its pairs decide
  pub found_pairs : (n m : ℕ) → n ≡ length_of text → m ≡ n + 5 → get_or text 0 0 ≡ colon
      → is_end (drop (2 * n + 11) text) ≡ true
      → cond (pairs text m) (Some (sum_of text m)) None ≡ found
  found_pairs n m p q c f =
      let e : 2 * n + 11 ≡ 2 * asked text + 1 = omega arith in
      let a : m ≡ asked text = omega arith in
      by a (pairs text (asked text))
      (agree (is_whole line) (pairs text (asked text)) (λ e. (whole_standing e).paired)
      (λ t. standing_whole (record { colon_first = c; paired = t; ends = rw e at f })))
      refl
    where
      by : m ≡ asked text → (b : Bool) → is_whole line ≡ b → pairs text (asked text) ≡ b
          → cond (pairs text m) (Some (sum_of text m)) None ≡ found
      by a true w e = rw (a, e, w, same_sum w)
      by a false w e = rw (a, e, w)
