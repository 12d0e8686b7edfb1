-- The laws of lines: the first line of a text, where it ends and where the next one begins. Assumes nothing.
use Prim.Native.Nat.{ℕ, zero, suc, ◌+◌, ◌-◌, ◌<◌, ◌≤◌}
use mathlib.Core.Bool.{Bool, true, false, true≢false, cond, ◌&&◌, ◌||◌, and-false, and-true, and-eq-true_iff}
use mathlib.Core.List.{List, [], ◌∷◌}
use mathlib.Core.Path.{◌≡◌, refl, sym, ap, ◌∙◌}
use native.Mathlib.Nat.{zero-add, suc-add, not-suc-le-zero, le_of_suc-le-suc}
use native.Mathlib.Decide.{dec_lt, ℕ_discrete}
use native.Mathlib.Omega.{arith}
use Rattle.std.specs.Bool.{◌==◌}
use Rattle.std.specs.List.{starts_with}
use borrow.Author.Tests.{eq-eqb, ne_eqb}
use lib.Dec.{eqb}
use Rattle.std.proofs.lemmas.Slice.{between_to_end}
use lib.ListN.{length, get_or, take, drop, drop_of_length-le, get_or-eq_default}
use lib.Seq.{drop-cons, drop-drop, get_or-drop}
use Rattle.ihex_layout.specs.Layout.{line_feed, carriage_return}
use Rattle.ihex_read.specs.Reader.{headed, behind, lines_in, first, line_at, is_end, place_of}

-- a text from a place on
pub to_end : (text : List ℕ) (at : ℕ) → take (length text - at) (drop at text) ≡ drop at text
to_end text at = between_to_end text at (length text) (omega arith)

-- what stands at a place inside the text
pub end_two : (text : List ℕ) (at : ℕ) → at < length text
    → is_end (drop at text) ≡ (eqb (get_or text at 0) line_feed || (eqb (get_or text at 0) carriage_return && eqb (get_or text (at + 1) 0) line_feed))
unfolding is_end
end_two text at l =
    let e : suc at + 0 ≡ at + 1 = omega arith in
    rw (drop-cons text at 0 l, get_or-drop (suc at) text 0 0, e)

turned : (a b : ℕ) → eqb a b ≡ eqb b a
turned a b = by (ℕ_discrete a b)
  where
    by : Dec (a ≡ b) → eqb a b ≡ eqb b a
    by (yes p) = rw (eq-eqb a b p, eq-eqb b a (sym p))
    by (no p) = rw (ne_eqb a b p, ne_eqb b a (λ q. p (sym q)))

-- so the library tests for it
pub end_test : (text : List ℕ)
    → is_end text
    ≡ (length text == 0
    || (starts_with eqb text (line_feed ∷ []) || starts_with eqb text (carriage_return ∷ line_feed ∷ [])))
unfolding is_end
end_test [] = refl
end_test (c ∷ []) =
    rw (turned line_feed c, and-true, and-false (eqb carriage_return c), and-false (eqb c carriage_return)) refl
end_test (c ∷ d ∷ text) =
    rw (
      ne_eqb (suc (suc (length text))) 0 (λ e. omega arith),
      turned line_feed c,
      turned line_feed d,
      turned carriage_return c,
      and-true (eqb c line_feed),
      and-true (eqb d line_feed),
    )
    refl

-- where LF comes next the line is over
over_at_lf : (text : List ℕ) → eqb (get_or text 0 0) line_feed ≡ true → first (lines_in text) ≡ []
unfolding lines_in behind
over_at_lf [] e = refl
over_at_lf (c ∷ text) e = rw e

first_headed : (c : ℕ) (lines : List (List ℕ)) → first (headed c lines) ≡ c ∷ first lines
first_headed c [] = refl
first_headed c (line ∷ lines) = refl

-- the first line, a character at a time
pub first_line : (c : ℕ) (text : List ℕ) → first (lines_in (c ∷ text)) ≡ cond (is_end (c ∷ text)) [] (c ∷ first (lines_in text))
unfolding lines_in behind is_end
first_line c text = by (eqb c line_feed) (eqb c carriage_return) (eqb (get_or text 0 0) line_feed) refl refl refl
  where
    by : (f r t : Bool) → eqb c line_feed ≡ f → eqb c carriage_return ≡ r → eqb (get_or text 0 0) line_feed ≡ t
        → first (cond (eqb c line_feed) ([] ∷ lines_in text) (cond (eqb c carriage_return && eqb (get_or text 0 0) line_feed) (lines_in text) (headed c (lines_in text))))
        ≡ cond (eqb c line_feed || (eqb c carriage_return && eqb (get_or text 0 0) line_feed)) [] (c ∷ first (lines_in text))
    by true r t x y z = rw x
    by false true true x y z = rw (x, y, z) (over_at_lf text z)
    by false true false x y z = rw (x, y, z) (first_headed c (lines_in text))
    by false false t x y z = rw (x, y) (first_headed c (lines_in text))

lines_cons : (c : ℕ) (text : List ℕ) → lines_in (c ∷ text) ≡ behind c (eqb (get_or text 0 0) line_feed) (lines_in text)
unfolding lines_in
lines_cons c text = refl

-- a character that is no LF does not begin a line anew
place_on : (c : ℕ) (text : List ℕ) → eqb c line_feed ≡ false → place_of 1 (c ∷ text) ≡ suc (place_of 1 text)
unfolding place_of
place_on c text e = rw e

place_lf : (c : ℕ) (text : List ℕ) → eqb c line_feed ≡ true → place_of 1 (c ∷ text) ≡ 1
unfolding place_of
place_lf c text e = rw e

-- the lines behind the first are those of what follows
tail_stays : (c : ℕ) (turned : Bool) (line : List ℕ) (lines : List (List ℕ)) → eqb c line_feed ≡ false
    → behind c turned (line ∷ lines) ≡ first (behind c turned (line ∷ lines)) ∷ lines
unfolding behind
tail_stays c turned line lines e = by (eqb c carriage_return && turned) refl
  where
    by : (b : Bool) → (eqb c carriage_return && turned) ≡ b
        → cond (eqb c line_feed) ([] ∷ line ∷ lines) (cond (eqb c carriage_return && turned) (line ∷ lines) ((c ∷ line) ∷ lines))
        ≡ first (cond (eqb c line_feed) ([] ∷ line ∷ lines) (cond (eqb c carriage_return && turned) (line ∷ lines) ((c ∷ line) ∷ lines))) ∷ lines
    by true x = rw (e, x)
    by false x = rw (e, x)

alone : (c : ℕ) → lines_in (c ∷ []) ≡ first (lines_in (c ∷ [])) ∷ lines_in (drop (place_of 1 (c ∷ [])) (c ∷ []))
unfolding lines_in behind place_of
alone c = by (eqb c line_feed) (eqb c carriage_return) refl refl
  where
    by : (f r : Bool) → eqb c line_feed ≡ f → eqb c carriage_return ≡ r
        → cond (eqb c line_feed) ([] ∷ []) (cond (eqb c carriage_return && false) [] ((c ∷ []) ∷ []))
        ≡ first (cond (eqb c line_feed) ([] ∷ []) (cond (eqb c carriage_return && false) [] ((c ∷ []) ∷ [])))
        ∷ lines_in (drop (cond (eqb c line_feed) 0 0) [])
    by true r x y = rw x
    by false true x y = rw (x, y)
    by false false x y = rw (x, y)

breaks : (c : ℕ) (text : List ℕ) → eqb c line_feed ≡ true → lines_in (c ∷ text) ≡ first (lines_in (c ∷ text)) ∷ lines_in (drop (place_of 1 (c ∷ text)) (c ∷ text))
unfolding lines_in behind place_of
breaks c text x = rw x

-- behind the first line come the lines from the next place on
pub lines_on : (c : ℕ) (text : List ℕ)
    → lines_in (c ∷ text) ≡ first (lines_in (c ∷ text)) ∷ lines_in (drop (place_of 1 (c ∷ text)) (c ∷ text))
lines_on c [] = alone c
lines_on c (d ∷ text) = by (eqb c line_feed) refl (lines_on d text)
  where
    by : (f : Bool) → eqb c line_feed ≡ f
        → lines_in (d ∷ text) ≡ first (lines_in (d ∷ text)) ∷ lines_in (drop (place_of 1 (d ∷ text)) (d ∷ text))
        → lines_in (c ∷ d ∷ text) ≡ first (lines_in (c ∷ d ∷ text)) ∷ lines_in (drop (place_of 1 (c ∷ d ∷ text)) (c ∷ d ∷ text))
    by true x e = breaks c (d ∷ text) x
    by false x e =
        let rest : List (List ℕ) = lines_in (drop (place_of 1 (d ∷ text)) (d ∷ text)) in
        let line : List ℕ = first (lines_in (d ∷ text)) in
        let a : lines_in (c ∷ d ∷ text) ≡ behind c (eqb d line_feed) (line ∷ rest) = lines_cons c (d ∷ text) ∙ ap (behind c (eqb d line_feed)) e in
        a ∙
        (tail_stays c (eqb d line_feed) line rest x ∙
        (ap (λ (l : List (List ℕ)). first l ∷ rest) (sym a) ∙
        ap (λ (n : ℕ). first (lines_in (c ∷ d ∷ text)) ∷ lines_in (drop n (c ∷ d ∷ text))) (sym (place_on c (d ∷ text) x))))

no_lf : (c : ℕ) (text : List ℕ) → is_end (c ∷ text) ≡ false → eqb c line_feed ≡ false
unfolding is_end
no_lf c text e = by (eqb c line_feed) refl e
  where
    by : (b : Bool) → eqb c line_feed ≡ b → (b || (eqb c carriage_return && eqb (get_or text 0 0) line_feed)) ≡ false → eqb c line_feed ≡ false
    by true x y = absurd (true≢false y)
    by false x y = x

-- past the end of a text there is no LF
before_end : (text : List ℕ) (at : ℕ) → eqb (get_or text at 0) line_feed ≡ true → at < length text
before_end text at e = by (dec_lt at (length text))
  where
    by : Dec (at < length text) → at < length text
    by (yes l) = l
    by (no l) = absurd (true≢false (sym e ∙ rw (get_or-eq_default text 0 {n = at} (omega arith))))

-- The first line is what stands before its end.
pub first_long : (text : List ℕ) → length (first (lines_in text)) ≤ length text
unfolding lines_in
first_long [] = omega arith
first_long (c ∷ text) = rw (first_line c text) (by (is_end (c ∷ text)) (first_long text))
  where
    by : (b : Bool) → length (first (lines_in text)) ≤ length text → length (cond b [] (c ∷ first (lines_in text))) ≤ suc (length text)
    by true l = omega arith
    by false l = omega arith

pub first_reads : (text : List ℕ) (k : ℕ) → k < length (first (lines_in text)) → get_or (first (lines_in text)) k 0 ≡ get_or text k 0
unfolding lines_in
first_reads [] k l = refl
first_reads (c ∷ text) zero l = rw (first_line c text) (by (is_end (c ∷ text)) (rw (← first_line c text) l))
  where
    by : (b : Bool) → 0 < length (cond b [] (c ∷ first (lines_in text))) → get_or (cond b [] (c ∷ first (lines_in text))) 0 0 ≡ c
    by true l = absurd (not-suc-le-zero l)
    by false l = refl
first_reads (c ∷ text) (suc k) l = rw (first_line c text) (by (is_end (c ∷ text)) (rw (← first_line c text) l) (first_reads text k))
  where
    by : (b : Bool) → suc k < length (cond b [] (c ∷ first (lines_in text)))
        → (k < length (first (lines_in text)) → get_or (first (lines_in text)) k 0 ≡ get_or text k 0)
        → get_or (cond b [] (c ∷ first (lines_in text))) (suc k) 0 ≡ get_or text k 0
    by true l h = absurd (not-suc-le-zero l)
    by false l h = h (le_of_suc-le-suc l)

pub first_ends : (text : List ℕ) → is_end (drop (length (first (lines_in text))) text) ≡ true
unfolding lines_in is_end
first_ends [] = refl
first_ends (c ∷ text) = rw (first_line c text) (by (is_end (c ∷ text)) refl (first_ends text))
  where
    by : (b : Bool) → is_end (c ∷ text) ≡ b → is_end (drop (length (first (lines_in text))) text) ≡ true
        → is_end (drop (length (cond b [] (c ∷ first (lines_in text)))) (c ∷ text)) ≡ true
    by true x e = x
    by false x e = e

-- and only that
pub first_is : (m : ℕ) (text : List ℕ) → m ≤ length text
    → ((k : ℕ) → k < m → (eqb (get_or text k 0) line_feed ≡ false) × (eqb (get_or text k 0) carriage_return ≡ false)) → is_end (drop m text) ≡ true
    → length (first (lines_in text)) ≡ m
unfolding lines_in is_end
first_is zero [] l h e = refl
first_is zero (c ∷ text) l h e = rw (first_line c text, e)
first_is (suc m) [] l h e = absurd (not-suc-le-zero l)
first_is (suc m) (c ∷ text) l h e =
    rw (first_line c text, (h 0 (omega arith)).0, (h 0 (omega arith)).1)
    (ap suc (first_is m text (le_of_suc-le-suc l) (λ k p. h (suc k) (omega arith)) e))

-- Where the next line begins: behind the first one and its ending.
pub place_first : (text : List ℕ) → place_of 1 text ≡ length (first (lines_in text)) + place_of 1 (drop (length (first (lines_in text))) text)
unfolding lines_in place_of
place_first [] = refl
place_first (c ∷ text) = rw (first_line c text) (by (is_end (c ∷ text)) refl (place_first text))
  where
    by : (b : Bool) → is_end (c ∷ text) ≡ b
        → place_of 1 text ≡ length (first (lines_in text)) + place_of 1 (drop (length (first (lines_in text))) text)
        → place_of 1 (c ∷ text)
        ≡ length (cond b [] (c ∷ first (lines_in text))) + place_of 1 (drop (length (cond b [] (c ∷ first (lines_in text)))) (c ∷ text))
    by true x e = sym (zero-add (place_of 1 (c ∷ text)))
    by false x e = place_on c text (no_lf c text x) ∙ (ap suc e ∙ sym (suc-add (length (first (lines_in text))) (place_of 1 (drop (length (first (lines_in text))) text))))

pub ending_none : (text : List ℕ) (at : ℕ) → length text ≤ at → place_of 1 (drop at text) ≡ 0
unfolding place_of
ending_none text at l = rw (drop_of_length-le text l)

pub ending_lf : (text : List ℕ) (at : ℕ) → at < length text → eqb (get_or text at 0) line_feed ≡ true → place_of 1 (drop at text) ≡ 1
ending_lf text at l e = rw (drop-cons text at 0 l) (place_lf (get_or text at 0) (drop (suc at) text) e)

pub ending_cr : (text : List ℕ) (at : ℕ) → at < length text → is_end (drop at text) ≡ true → eqb (get_or text at 0) line_feed ≡ false
    → (place_of 1 (drop at text) ≡ 2) × (at + 2 ≤ length text)
ending_cr text at l e n =
    let w : (eqb (get_or text at 0) carriage_return && eqb (get_or text (at + 1) 0) line_feed) ≡ true = rw (end_two text at l, n) at e in
    let f : eqb (get_or text (at + 1) 0) line_feed ≡ true = ((and-eq-true_iff (eqb (get_or text at 0) carriage_return) (eqb (get_or text (at + 1) 0) line_feed)).0 w).1 in
    let p : suc at ≡ at + 1 = omega arith in
    let m : suc at < length text = before_end text (suc at) (rw p f) in
    (rw (drop-cons text at 0 l) (place_on (get_or text at 0) (drop (suc at) text) n ∙ ap suc (ending_lf text (suc at) m (rw p f))), omega arith)

-- the line behind line k begins where the text from line k on has its next line
pub place_next : (k : ℕ) (text : List ℕ) → place_of (suc k) text ≡ place_of k text + place_of 1 (drop (place_of k text) text)
unfolding place_of
place_next zero text = sym (zero-add (place_of 1 text))
place_next (suc k) [] = refl
place_next (suc k) (c ∷ text) = by (eqb c line_feed) refl (place_next k text) (place_next (suc k) text)
  where
    by : (b : Bool) → eqb c line_feed ≡ b → place_of (suc k) text ≡ place_of k text + place_of 1 (drop (place_of k text) text)
        → place_of (suc (suc k)) text ≡ place_of (suc k) text + place_of 1 (drop (place_of (suc k) text) text)
        → place_of (suc (suc k)) (c ∷ text) ≡ place_of (suc k) (c ∷ text) + place_of 1 (drop (place_of (suc k) (c ∷ text)) (c ∷ text))
    by true x e f = rw (x, e) (sym (suc-add _ _))
    by false x e f = rw (x, f) (sym (suc-add _ _))

-- a line begins in the text or at its end, and the next one further on
pub place_long : (k : ℕ) (text : List ℕ) → place_of k text ≤ length text
unfolding place_of
place_long zero text = omega arith
place_long (suc k) [] = omega arith
place_long (suc k) (c ∷ text) = by (eqb c line_feed) (place_long k text) (place_long (suc k) text)
  where
    by : (b : Bool) → place_of k text ≤ length text → place_of (suc k) text ≤ length text
        → suc (cond b (place_of k text) (place_of (suc k) text)) ≤ suc (length text)
    by true l m = omega arith
    by false l m = omega arith

pub place_some : (text : List ℕ) → 0 < length text → 0 < place_of 1 text
unfolding place_of
place_some [] l = l
place_some (c ∷ text) l = omega arith

-- the lines from a place of the text on
pub lines_at_lem : (text : List ℕ) (at : ℕ) → at < length text
    → lines_in (drop at text) ≡ line_at text at ∷ lines_in (drop (at + place_of 1 (drop at text)) text)
lines_at_lem text at l =
    rw (drop-cons text at 0 l) (lines_on (get_or text at 0) (drop (suc at) text)) ∙
    ap (λ (s : List ℕ). line_at text at ∷ lines_in s) (drop-drop (place_of 1 (drop at text)) at text)
