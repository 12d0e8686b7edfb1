-- The lines of an array one after the other, and what the writer leaves in the output. Assumes nothing.
use Prim.Native.Nat.{ℕ, zero, suc, ◌+◌, ◌*◌, ◌/◌, ◌%◌, ◌≤◌}
use mathlib.Core.Bool.{Bool, true, false, cond, not}
use mathlib.Core.List.{List, [], ◌∷◌}
use mathlib.Core.Logic.{◌≢◌}
use mathlib.Core.Path.{◌≡◌, refl, ◌∙◌}
use native.Mathlib.Decide.{ℕ_discrete}
use native.Mathlib.Omega.{arith}
use borrow.Author.Tests.{eqb-true, eq-eqb, ne_eqb, ltb-false}
use lib.Dec.{ltb, eqb}
use lib.ListN.{length, get_or, set, take, drop, length-take, length-drop}
use lib.Seq.{sets, sets-eq, get_or-set_other, take-append_seam}
use Rattle.memories.specs.Sizes.{is_array}
use Rattle.memories.proofs.Long.{array_long}
use Rattle.ihex_write.specs.Writer.{Told, upper_line, data_line, end_line, lines_at, lines_from, lines_of, text_of, written, written_of, output_of}

-- What holds of the end's line at the array's end, and of the lines from a place on if it holds of those from 16 bytes further on, holds
-- of all lines of an array. Two lines come first where 64 KiB begin, and elsewhere one.
module _ (array : List ℕ) (P : ℕ → List (List ℕ) → Type 0)
    (last : P (length array) (end_line ∷ []))
    (two : (at : ℕ) (lines : List (List ℕ)) → at + 16 ≤ length array → at % 65536 ≡ 0
    → P (at + 16) lines → P at (upper_line (at / 65536) ∷ data_line array at ∷ lines))
    (one : (at : ℕ) (lines : List (List ℕ)) → at + 16 ≤ length array → at % 65536 ≢ 0 → at % 65536 + 16 ≤ 65536
    → P (at + 16) lines → P at (data_line array at ∷ lines))
  where
    -- it holds n times 16 bytes before the end
    before_end : (at n : ℕ) → at % 16 ≡ 0 → at + 16 * n ≡ length array → P at (lines_from array at n)
    unfolding lines_from lines_at
    before_end at zero m e = let q : at ≡ length array = omega arith in rw q last
    before_end at (suc n) m e = by (ℕ_discrete (at % 65536) 0) (before_end (at + 16) n (omega arith) (omega arith))
      where
        by : Dec (at % 65536 ≡ 0) → P (at + 16) (lines_from array (at + 16) n) → P at (lines_from array at (suc n))
        by (yes f) h = rw (eq-eqb (at % 65536) 0 f) (two at (lines_from array (at + 16) n) (omega arith) f h)
        by (no f) h = rw (ne_eqb (at % 65536) 0 f) (one at (lines_from array (at + 16) n) (omega arith) f (omega arith) h)

    -- and so from the start
    pub by_lines : is_array (length array) ≡ true → P 0 (lines_of array)
    by_lines i = before_end 0 (length array / 16) refl (omega (arith, (array_long (length array) i).1))

-- 16 bytes that the array has
pub length-16 : (array : List ℕ) (at : ℕ) → at + 16 ≤ length array → length (take 16 (drop at array)) ≡ 16
length-16 array at l = omega (arith, length-take 16 (drop at array), length-drop at array)

-- the writer's answer, by its two tests
abbrev answer : Bool → Bool → ℕ → Told
answer sized short characters = cond (not sized) (written 18 0) (cond short (written 17 0) (written 0 characters))

-- it refuses nothing only if both pass
accepted : (sized short : Bool) (n : ℕ) → (answer sized short n).refusal ≡ 0 → (sized ≡ true) × (short ≡ false) × ((answer sized short n).characters ≡ n)
accepted true true n e = absurd (omega arith)
accepted true false n e = (refl, refl, refl)
accepted false short n e = absurd (omega arith)

-- where the writer does not refuse, the array has its size, and its text fits
pub fits : (array : List ℕ) (room : ℕ) → (written_of array room).refusal ≡ 0
    → (is_array (length array) ≡ true) × (length (text_of array) ≤ room) × ((written_of array room).characters ≡ length (text_of array))
unfolding written_of
fits array room e =
    let n : ℕ = length (text_of array) in
    let w = accepted (is_array (length array)) (ltb room n) n e in
    (w.0, ltb-false room n w.1, w.2)

-- stores before a place leave what is there
sets_before : (list : List ℕ) (i : ℕ) (values : List ℕ) (k d : ℕ) → i + length values ≤ k → get_or (sets list i values) k d ≡ get_or list k d
sets_before list i [] k d l = refl
sets_before list i (v ∷ values) k d l = sets_before (set list i v) (suc i) values k d (omega arith) ∙ get_or-set_other list i k v d (omega arith)

-- what lies behind the text stays
pub behind : (array output : List ℕ) (k d : ℕ) → (written_of array (length output)).characters ≤ k → get_or (output_of array output) k d ≡ get_or output k d
unfolding output_of
behind array output k d l = by (eqb (written_of array (length output)).refusal 0) (eqb-true (written_of array (length output)).refusal 0)
  where
    by : (b : Bool) → (b ≡ true → (written_of array (length output)).refusal ≡ 0) → get_or (cond b (sets output 0 (text_of array)) output) k d ≡ get_or output k d
    by true e = sets_before output 0 (text_of array) k d (omega (arith, (fits array (length output) (e refl)).2))
    by false e = refl

-- and what lies before is the text
pub text_kept : (array output : List ℕ) → (written_of array (length output)).refusal ≡ 0
    → take (written_of array (length output)).characters (output_of array output) ≡ text_of array
unfolding output_of
text_kept array output e =
    let w = fits array (length output) e in
    rw (e, w.2, sets-eq (text_of array) output 0 (omega (arith, w.1))) (take-append_seam (text_of array) (drop (0 + length (text_of array)) output))
