-- A walk over the records of a text: what is known where it has come to. Assumes nothing.
use Prim.Native.Nat.{ℕ, suc, ◌+◌, ◌<◌, ◌≤◌}
use mathlib.Core.Bool.{Bool, true, false, cond}
use mathlib.Core.List.{List, [], ◌∷◌}
use mathlib.Core.Path.{◌≡◌, refl, sym, ap, ◌∙◌}
use native.Mathlib.Decide.{dec_lt, ℕ_discrete}
use native.Mathlib.Omega.{arith}
use borrow.Author.Tests.{lt-ltb, le-ltb, eq-eqb, ne_eqb}
use lib.Dec.{eqb, ltb}
use lib.ListN.{length, drop, length-drop, drop_of_length-le}
use Rattle.cells.specs.Each.{each}
use Rattle.cells.proofs.Places.{length-each}
use Rattle.ihex_layout.specs.Layout.{kind_of}
use Rattle.ihex_read.specs.Reader.{Told, lines_in, line_at, place_of, fault_of, upper_behind, Verdict, verdict, ended}
use Rattle.ihex_read.specs.Reader.{judged, start_of, laid, obeyed, carried, reading, judged_in}
use Rattle.ihex_read.proofs.Lines.{lines_at_lem, place_long, place_next, place_some}

-- the walk has come to a line that begins at `at`; what is judged from there on decides
pub record Walk (text : List ℕ) (size at upper : ℕ) : Type 0 where
  pub line : ℕ
  pub inside : at ≤ length text
  pub place : place_of line text ≡ at
  pub same : judged size upper line (lines_in (drop at text)) ≡ judged_in text size

pub sets_out : (text : List ℕ) (size : ℕ) → Walk text size 0 0
unfolding place_of
sets_out text size = record { line = 0; inside = omega arith; place = refl; same = refl }

-- the judgement of a text, with the place of its line
abbrev answer : List ℕ → ℕ → Told
answer text size = reading (judged_in text size).refusal (place_of (judged_in text size).line text)

answers : (text : List ℕ) (size n k p : ℕ) → judged_in text size ≡ verdict n k → place_of k text ≡ p → reading n p ≡ answer text size
answers text size n k p e q = rw (e, q)

module _ {text : List ℕ} {size at upper : ℕ} (w : Walk text size at upper) where
  -- where the next line begins
  abbrev next : ℕ
  next = at + place_of 1 (drop at text)

  next_place : place_of (suc w.line) text ≡ next
  next_place = place_next w.line text ∙ rw w.place

  pub next_inside : next ≤ length text
  next_inside = rw next_place at (place_long (suc w.line) text)

  pub next_further : at < length text → at < next
  next_further l = let s : 0 < place_of 1 (drop at text) = place_some (drop at text) (omega (arith, length-drop at text)) in omega arith

  -- what is judged from this line on, and behind it
  here : at < length text → judged size upper w.line (line_at text at ∷ lines_in (drop next text)) ≡ judged_in text size
  here l = ap (judged size upper w.line) (sym (lines_at_lem text at l)) ∙ w.same

  -- a faulty line decides
  faulty : at < length text → (fault_of size upper (line_at text at) ≡ 0 → ⊥) → judged_in text size ≡ verdict (fault_of size upper (line_at text at)) w.line
  unfolding judged
  faulty l f = sym (here l) ∙ rw (ne_eqb (fault_of size upper (line_at text at)) 0 f)

  pub stops : at < length text → (fault_of size upper (line_at text at) ≡ 0 → ⊥) → reading (fault_of size upper (line_at text at)) at ≡ answer text size
  stops l f = answers text size _ _ _ (faulty l f) w.place

  -- a text that is not refused has no faulty line
  pub faultless : at < length text → (judged_in text size).refusal ≡ 0 → fault_of size upper (line_at text at) ≡ 0
  faultless l e = by (ℕ_discrete (fault_of size upper (line_at text at)) 0)
    where
      by : Dec (fault_of size upper (line_at text at) ≡ 0) → fault_of size upper (line_at text at) ≡ 0
      by (yes p) = p
      by (no p) = sym (ap (λ (v : Verdict). v.refusal) (faulty l p)) ∙ e

  -- behind the end record nothing may follow
  last : at < length text → fault_of size upper (line_at text at) ≡ 0 → kind_of (line_at text at) ≡ 1 → judged_in text size ≡ ended (suc w.line) (lines_in (drop next text))
  unfolding judged
  last l f k = sym (here l) ∙ rw (eq-eqb (fault_of size upper (line_at text at)) 0 f, eq-eqb (kind_of (line_at text at)) 1 k)

  pub ends_at : at < length text → fault_of size upper (line_at text at) ≡ 0 → kind_of (line_at text at) ≡ 1
      → cond (ltb next (length text)) (reading 16 next) (reading 0 0) ≡ answer text size
  unfolding ended lines_in place_of
  ends_at l f k = by (dec_lt next (length text))
    where
      by : Dec (next < length text) → cond (ltb next (length text)) (reading 16 next) (reading 0 0) ≡ answer text size
      by (yes m) = rw (lt-ltb next (length text) m) (answers text size 16 (suc w.line) next (last l f k ∙ ap (ended (suc w.line)) (lines_at_lem text next m)) next_place)
      by (no m) =
          rw (le-ltb next (length text) (omega arith))
          (answers text size 0 0 0 (last l f k ∙ ap (λ (s : List ℕ). ended (suc w.line) (lines_in s)) (drop_of_length-le text {i = next} (omega arith))) refl)

  -- so it is the last line of a text that is not refused
  nothing_behind : at < length text → fault_of size upper (line_at text at) ≡ 0 → kind_of (line_at text at) ≡ 1 → (judged_in text size).refusal ≡ 0
      → lines_in (drop next text) ≡ []
  unfolding ended
  nothing_behind l f k e = by (lines_in (drop next text)) (sym (ap (λ (v : Verdict). v.refusal) (last l f k)) ∙ e)
    where
      by : (lines : List (List ℕ)) → (ended (suc w.line) lines).refusal ≡ 0 → lines ≡ []
      by [] x = refl
      by (line ∷ lines) x = absurd (omega arith)

  -- behind any other good line the walk goes on
  pub goes_on : at < length text → fault_of size upper (line_at text at) ≡ 0 → (kind_of (line_at text at) ≡ 1 → ⊥)
      → Walk text size next (upper_behind upper (line_at text at))
  unfolding judged
  goes_on l f k =
      record {
        line = suc w.line;
        inside = next_inside;
        place = next_place;
        same =
            sym (rw (eq-eqb (fault_of size upper (line_at text at)) 0 f, ne_eqb (kind_of (line_at text at)) 1 k)) ∙ here l;
      }

  -- at the end of the text there was no end record
  nowhere : length text ≤ at → judged_in text size ≡ verdict 16 w.line
  unfolding judged lines_in
  nowhere l = sym w.same ∙ ap (λ (s : List ℕ). judged size upper w.line (lines_in s)) (drop_of_length-le text {i = at} l)

  pub runs_out : length text ≤ at → reading 16 at ≡ answer text size
  runs_out l = answers text size 16 w.line at (nowhere l) w.place

  pub no_end : length text ≤ at → (judged_in text size).refusal ≡ 0 → ⊥
  no_end l e = let x : ◌≡◌ {A = ℕ} 16 0 = sym (ap (λ (v : Verdict). v.refusal) (nowhere l)) ∙ e in omega arith

  -- what the lines from here on do, a line at a time
  pub carries : (array : List ℕ) → at < length text
      → carried upper (lines_in (drop at text)) array
      ≡ carried (upper_behind upper (line_at text at)) (lines_in (drop next text)) (obeyed upper (line_at text at) array)
  unfolding carried
  carries array l = ap (λ (lines : List (List ℕ)). carried upper lines array) (lines_at_lem text at l)

  -- the end record is the last to be carried out, and does nothing
  pub carries_no_more : (array : List ℕ) → at < length text → kind_of (line_at text at) ≡ 1 → (judged_in text size).refusal ≡ 0
      → carried upper (lines_in (drop at text)) array ≡ array
  unfolding carried obeyed
  carries_no_more array l k e =
      carries array l ∙ rw (nothing_behind l (faultless l e) k e, ne_eqb (kind_of (line_at text at)) 0 (λ z. let x : ◌≡◌ {A = ℕ} 1 0 = sym k ∙ z in omega arith))

-- the array stays as long as it is
pub obeyed_long : (upper : ℕ) (line array : List ℕ) → length (obeyed upper line array) ≡ length array
unfolding obeyed
obeyed_long upper line array = by (eqb (kind_of line) 0)
  where
    by : (b : Bool) → length (cond b (each (laid (start_of upper line) line) array) array) ≡ length array
    by true = length-each (laid (start_of upper line) line) array
    by false = refl
