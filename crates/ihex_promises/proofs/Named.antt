-- A byte after a text is of the last HEX record that names its place, and as it was if none does. Assumes nothing.
use Prim.Native.Nat.{ℕ, ◌+◌, ◌-◌, ◌<◌}
use mathlib.Core.Bool.{Bool, true, false, cond, ◌&&◌, false≢true}
use mathlib.Core.List.{List, [], ◌∷◌, ◌++◌}
use mathlib.Core.Path.{◌≡◌, refl, ◌∙◌}
use native.Mathlib.Omega.{arith}
use lib.Dec.{eqb}
use lib.ListN.{length, get_or}
use Rattle.cells.specs.Each.{each}
use Rattle.cells.specs.Range.{range}
use Rattle.cells.proofs.Places.{length-each, get_or-each, over_in, untouched}
use Rattle.ihex_layout.specs.Layout.{length_of, kind_of, data_at}
use Rattle.ihex_read.specs.Reader.{lines_in, start_of, upper_behind, laid, obeyed, carried, reading_of, array_of}
use Rattle.ihex_read.proofs.Faults.{neither}
use Rattle.ihex_promises.specs.Named.{uppers_after, names, any_names}

-- one line
module _ (upper : ℕ) (line array : List ℕ) where
  -- the length stays
  length-obeyed : length (obeyed upper line array) ≡ length array
  unfolding obeyed
  length-obeyed = by (eqb (kind_of line) 0)
    where
      by : (b : Bool) → length (cond b (each (laid (start_of upper line) line) array) array) ≡ length array
      by true = length-each (laid (start_of upper line) line) array
      by false = refl

  module _ (k : ℕ) where
    -- where its data goes
    abbrev start : ℕ
    start = start_of upper line

    -- a place that it names has its data byte afterwards
    named : k < length array → names upper line k ≡ true → get_or (obeyed upper line array) k 0 ≡ data_at line (k - start)
    unfolding obeyed names
    named l e = by (eqb (kind_of line) 0) e
      where
        by : (b : Bool) → (b && range start (start + length_of line) k) ≡ true
            → get_or (cond b (each (laid start line) array) array) k 0 ≡ data_at line (k - start)
        by true c =
            get_or-each (laid start line) array k 0 l ∙
            over_in (range start (start + length_of line)) (λ i x. data_at line (i - start)) k (get_or array k 0) c
        by false c = absurd (false≢true c)

    -- any other is as it was
    unnamed : names upper line k ≡ false → get_or (obeyed upper line array) k 0 ≡ get_or array k 0
    unfolding obeyed names
    unnamed e = by (eqb (kind_of line) 0) e
      where
        by : (b : Bool) → (b && range start (start + length_of line) k) ≡ false
            → get_or (cond b (each (laid start line) array) array) k 0 ≡ get_or array k 0
        by true c = untouched (range start (start + length_of line)) (λ i x. data_at line (i - start)) array k 0 c
        by false c = refl

-- lines that do not name a place leave it as it was
all_unnamed : (upper : ℕ) (lines : List (List ℕ)) (array : List ℕ) (k : ℕ)
    → any_names upper lines k ≡ false → get_or (carried upper lines array) k 0 ≡ get_or array k 0
unfolding carried any_names
all_unnamed upper [] array k e = refl
all_unnamed upper (line ∷ lines) array k e =
    let none = neither (names upper line k) (any_names (upper_behind upper line) lines k) e in
    all_unnamed (upper_behind upper line) lines (obeyed upper line array) k none.1 ∙
    unnamed upper line array k none.0

-- of lines that name a place the last one gives it its byte
last_wins : (upper : ℕ) (before after : List (List ℕ)) (line array : List ℕ) (k : ℕ) → k < length array
    → names (uppers_after upper before) line k ≡ true
    → any_names (upper_behind (uppers_after upper before) line) after k ≡ false
    → get_or (carried upper (before ++ line ∷ after) array) k 0
    ≡ data_at line (k - start_of (uppers_after upper before) line)
unfolding carried uppers_after
last_wins upper [] after line array k l n e =
    all_unnamed (upper_behind upper line) after (obeyed upper line array) k e ∙ named upper line array k l n
last_wins upper (first ∷ before) after line array k l n e =
    let m : k < length (obeyed upper first array) = omega (arith, length-obeyed upper first array) in
    last_wins (upper_behind upper first) before after line (obeyed upper first array) k m n e

-- byte k afterwards is the data byte of the last HEX record that names k
pub last_record_wins : (text array : List ℕ) (before after : List (List ℕ)) (line : List ℕ) (k : ℕ)
    → k < length array → (reading_of text (length array)).refusal ≡ 0
    → lines_in text ≡ before ++ line ∷ after → names (uppers_after 0 before) line k ≡ true
    → any_names (upper_behind (uppers_after 0 before) line) after k ≡ false
    → get_or (array_of text array) k 0 ≡ data_at line (k - start_of (uppers_after 0 before) line)
unfolding array_of
last_record_wins text array before after line k l accepted lines n e =
    rw (accepted, lines) (last_wins 0 before after line array k l n e)

-- and as it was if none does
pub unnamed_stays : (text array : List ℕ) (k : ℕ)
    → any_names 0 (lines_in text) k ≡ false → get_or (array_of text array) k 0 ≡ get_or array k 0
unfolding array_of
unnamed_stays text array k e = by (eqb (reading_of text (length array)).refusal 0)
  where
    by : (b : Bool) → get_or (cond b (carried 0 (lines_in text) array) array) k 0 ≡ get_or array k 0
    by true = all_unnamed 0 (lines_in text) array k e
    by false = refl
