-- The reader does not see case: each of its definitions says of a line in upper case what it says of the line. So texts whose lines
-- differ only in case are alike. Assumes nothing.
use Prim.Native.Nat.{ℕ, zero, suc, ◌+◌, ◌-◌, ◌*◌, ◌<◌, ◌≤◌}
use mathlib.Core.Bool.{Bool, true, false, cond, ◌&&◌}
use mathlib.Core.List.{List, [], ◌∷◌, map}
use mathlib.Core.Path.{◌≡◌, refl, sym, ap, ◌∙◌}
use native.Mathlib.Decide.{dec_lt}
use native.Mathlib.Omega.{arith}
use borrow.Author.Tests.{ne_eqb}
use lib.Dec.{eqb}
use lib.ListN.{length, get_or, length-map, get_or-map}
use Rattle.cells.specs.Range.{range}
use Rattle.cells.proofs.Runs.{range_in, range_before, range_behind, range_of_lem}
use Rattle.memories.specs.Sizes.{is_array}
use Rattle.ihex_layout.specs.Layout.{colon, line_feed, carriage_return, digit_of, byte_at, sum_of}
use Rattle.ihex_read.specs.Reader.{headed, behind, lines_in, place_of, pairs, is_whole, fault_of, upper_behind, ended, judged, judged_in, obeyed, carried, reading_of, array_of}
use Rattle.ihex_promises.specs.Promises.{upper_case, capitals}

-- a small letter and its capital are the same digit, or none
digit_small : (c : ℕ) → 0x61 ≤ c → c < 0x7B → digit_of (c - 0x20) ≡ digit_of c
unfolding digit_of
digit_small c p q =
    rw (range_behind 0x30 0x3A (c - 0x20) (omega arith), range_behind 0x30 0x3A c (omega arith), range_behind 0x41 0x47 c (omega arith))
    elim (dec_lt c 0x67) [
      | yes l ↦ rw (range_in 0x41 0x47 (c - 0x20) (omega arith) (omega arith), range_in 0x61 0x67 c p l) (omega arith)
      | no l ↦ rw (range_behind 0x41 0x47 (c - 0x20) (omega arith), range_before 0x61 0x67 (c - 0x20) (omega arith), range_behind 0x61 0x67 c (omega arith))
    ]

-- what is the same of each small letter and its capital is the same of each character of a line and of the line in upper case
line_case : {A : Type 0} (f : ℕ → A) → ((c : ℕ) → 0x61 ≤ c → c < 0x7B → f (c - 0x20) ≡ f c) → (line : List ℕ) (i : ℕ)
    → f (get_or (map upper_case line) i 0) ≡ f (get_or line i 0)
line_case f h line i = ap f (get_or-map upper_case line i 0) ∙ by (get_or line i 0) (range 0x61 0x7B (get_or line i 0)) refl
  where
    by : (c : ℕ) (b : Bool) → range 0x61 0x7B c ≡ b → f (upper_case c) ≡ f c
    by c true e = rw e (h c (range_of_lem 0x61 0x7B c e).0 (range_of_lem 0x61 0x7B c e).1)
    by c false e = rw e

-- a test for a character below the letters, as the colon, LF and CR are, does not see case
test_case : (n : ℕ) → n < 0x41 → (line : List ℕ) (i : ℕ) → eqb (get_or (map upper_case line) i 0) n ≡ eqb (get_or line i 0) n
test_case n l = line_case (λ (c : ℕ). eqb c n) (λ c p q. rw (ne_eqb (c - 0x20) n (omega arith), ne_eqb c n (omega arith)))

-- nor do the bytes
byte_case : (line : List ℕ) (k : ℕ) → byte_at (map upper_case line) k ≡ byte_at line k
unfolding byte_at
byte_case line k = rw (line_case digit_of digit_small line (2 * k + 1), line_case digit_of digit_small line (2 * k + 2))

-- nor does the test for pairs of digits
pairs_case : (line : List ℕ) (n : ℕ) → pairs (map upper_case line) n ≡ pairs line n
unfolding pairs
pairs_case line zero = refl
pairs_case line (suc n) = rw (pairs_case line n, byte_case line n)

-- nor does the sum
sum-case : (line : List ℕ) (n : ℕ) → sum_of (map upper_case line) n ≡ sum_of line n
unfolding sum_of
sum-case line zero = refl
sum-case line (suc n) = rw (sum-case line n, byte_case line n)

-- nor does the shape of a record
whole_case : (line : List ℕ) → is_whole (map upper_case line) ≡ is_whole line
unfolding is_whole
whole_case line = rw (test_case colon (omega arith) line 0, length-map line upper_case, byte_case line 0, pairs_case line (byte_at line 0 + 5))

-- nor does the refusal of a line
fault_case : (size upper : ℕ) (line : List ℕ) → fault_of size upper (map upper_case line) ≡ fault_of size upper line
unfolding fault_of
fault_case size upper line = simp (whole_case, byte_case, sum-case)

-- nor does the upper part of the addresses behind a line
upper_case_lem : (upper : ℕ) (line : List ℕ) → upper_behind upper (map upper_case line) ≡ upper_behind upper line
upper_case_lem upper line = simp byte_case

-- nor does what a line puts into the array
obeyed_case : (upper : ℕ) (line array : List ℕ) → obeyed upper (map upper_case line) array ≡ obeyed upper line array
unfolding obeyed
obeyed_case upper line array = simp byte_case

-- behind the end record it only counts whether lines follow
ended_case : (k : ℕ) (lines : List (List ℕ)) → ended k (map (map upper_case) lines) ≡ ended k lines
unfolding ended
ended_case k [] = refl
ended_case k (line ∷ lines) = refl

-- so lines in upper case are judged as the lines are
judged_case : (size upper k : ℕ) (lines : List (List ℕ)) → judged size upper k (map (map upper_case) lines) ≡ judged size upper k lines
unfolding judged
judged_case size upper k [] = refl
judged_case size upper k (line ∷ lines) =
    rw (
      judged_case size (upper_behind upper (map upper_case line)) (suc k) lines,
      fault_case size upper line,
      upper_case_lem upper line,
      ended_case (suc k) lines,
      byte_case line 3,
    )

-- and carried out as the lines are
carried_case : (upper : ℕ) (lines : List (List ℕ)) (array : List ℕ) → carried upper (map (map upper_case) lines) array ≡ carried upper lines array
unfolding carried
carried_case upper [] array = refl
carried_case upper (line ∷ lines) array =
    carried_case (upper_behind upper (map upper_case line)) lines (obeyed upper (map upper_case line) array) ∙
    rw (upper_case_lem upper line, obeyed_case upper line array)

-- what does not see the case of lines is the same of texts with the same capitals
same : {A : Type 0} (f : List (List ℕ) → A) → ((lines : List (List ℕ)) → f (map (map upper_case) lines) ≡ f lines) → (text other : List ℕ)
    → capitals text ≡ capitals other → f (lines_in text) ≡ f (lines_in other)
same f h text other e = sym (h (lines_in text)) ∙ (ap f e ∙ h (lines_in other))

-- texts that are judged alike are refused alike
refused_alike : (text other : List ℕ) (size : ℕ) → judged_in text size ≡ judged_in other size → (reading_of text size).refusal ≡ (reading_of other size).refusal
unfolding reading_of
refused_alike text other size j = by (is_array size) refl
  where
    by : (b : Bool) → is_array size ≡ b → (reading_of text size).refusal ≡ (reading_of other size).refusal
    by true e = rw (e, j)
    by false e = rw e

-- texts whose lines differ only in case are alike: the same refusal about the same line, and the same array
pub alike : (text other : List ℕ) → capitals text ≡ capitals other → (array : List ℕ)
    → ((reading_of text (length array)).refusal ≡ (reading_of other (length array)).refusal)
    × (judged_in text (length array) ≡ judged_in other (length array))
    × (array_of text array ≡ array_of other array)
unfolding array_of
alike text other e array =
    let judgement : judged_in text (length array) ≡ judged_in other (length array) = same (judged (length array) 0 0) (judged_case (length array) 0 0) text other e in
    let refusal : (reading_of text (length array)).refusal ≡ (reading_of other (length array)).refusal = refused_alike text other (length array) judgement in
    (refusal, judgement, rw (refusal, same (λ (lines : List (List ℕ)). carried 0 lines array) (λ lines. carried_case 0 lines array) text other e))

-- A text in upper case has its lines in upper case.
headed_case : (c : ℕ) (lines : List (List ℕ)) → headed (upper_case c) (map (map upper_case) lines) ≡ map (map upper_case) (headed c lines)
headed_case c [] = refl
headed_case c (line ∷ lines) = refl

behind_case : (c : ℕ) (b : Bool) (lines : List (List ℕ)) → behind (upper_case c) b (map (map upper_case) lines) ≡ map (map upper_case) (behind c b lines)
unfolding behind
behind_case c b lines =
    rw (test_case line_feed (omega arith) (c ∷ []) 0, test_case carriage_return (omega arith) (c ∷ []) 0) (by (eqb c line_feed) (eqb c carriage_return && b))
  where
    by : (f r : Bool) → cond f ([] ∷ map (map upper_case) lines) (cond r (map (map upper_case) lines) (headed (upper_case c) (map (map upper_case) lines)))
        ≡ map (map upper_case) (cond f ([] ∷ lines) (cond r lines (headed c lines)))
    by true r = refl
    by false true = refl
    by false false = headed_case c lines

lines_case : (text : List ℕ) → lines_in (map upper_case text) ≡ capitals text
unfolding lines_in
lines_case [] = refl
lines_case (c ∷ text) =
    rw (lines_case text, test_case line_feed (omega arith) text 0) (behind_case c (eqb (get_or text 0 0) line_feed) (lines_in text))

-- and they begin where they began
place_case : (k : ℕ) (text : List ℕ) → place_of k (map upper_case text) ≡ place_of k text
unfolding place_of
place_case zero text = refl
place_case (suc k) [] = refl
place_case (suc k) (c ∷ text) = rw (test_case line_feed (omega arith) (c ∷ []) 0, place_case k text, place_case (suc k) text)

-- texts that differ in case alone get the same answer, place and all
pub same_place : (text other : List ℕ) → map upper_case text ≡ map upper_case other → (size : ℕ) → reading_of text size ≡ reading_of other size
unfolding reading_of
same_place text other e size =
    let capital : capitals text ≡ capitals other = sym (lines_case text) ∙ (ap lines_in e ∙ lines_case other) in
    let judgement : judged_in text size ≡ judged_in other size = same (judged size 0 0) (judged_case size 0 0) text other capital in
    let place : (k : ℕ) → place_of k text ≡ place_of k other = λ k. sym (place_case k text) ∙ (ap (place_of k) e ∙ place_case k other) in
    rw (judgement, place (judged_in other size).line)
