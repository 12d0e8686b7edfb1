-- The round trip: the lines of an array are read without a fault, each puts its bytes where they were, and so the text gives the array.
-- Assumes nothing.
use Prim.Native.Nat.{ℕ, suc, ◌+◌, ◌-◌, ◌*◌, ◌/◌, ◌%◌, ◌<◌, ◌≤◌}
use mathlib.Core.Bool.{Bool, true, false}
use mathlib.Core.List.{List, [], ◌∷◌}
use mathlib.Core.Logic.{◌≢◌}
use mathlib.Core.Path.{◌≡◌, refl, sym, ap, ◌∙◌}
use native.Mathlib.Omega.{arith}
use borrow.Author.Tests.{le-ltb}
use lib.Dec.{ltb}
use lib.ListN.{length, get_or, take, drop}
use lib.Seq.{get_or-take, get_or-drop}
use Rattle.cells.specs.Each.{Cell, each, over}
use Rattle.cells.specs.Range.{range}
use Rattle.cells.proofs.Places.{each_alike, is_each, over_in, over_alike}
use Rattle.cells.proofs.Runs.{range_in, range_of_lem, side_by_side, begins}
use Rattle.memories.specs.Sizes.{is_array}
use Rattle.memories.proofs.Long.{array_long}
use Rattle.ihex_layout.specs.Layout.{length_of, data_at}
use Rattle.ihex_write.specs.Writer.{upper_line, data_line, end_line, lines_of, text_of, written_of, output_of}
use Rattle.ihex_read.specs.Reader.{lines_in, place_of, fault_of, verdict, ended, judged, start_of, laid, obeyed, carried, reading, reading_of, array_of}
use Rattle.ihex_promises.specs.Promises.{Bytes}
use Rattle.ihex_promises.proofs.Endings.{Plain, lines_joined}
use Rattle.ihex_promises.proofs.Records.{Says, record_says, record_plain, front, take-small}
use Rattle.ihex_promises.proofs.Texts.{by_lines, length-16, fits, text_kept}

-- the array's byte at a place
abbrev own : List ℕ → Cell
own array k x = get_or array k 0

-- Lines that are read without a fault, and give the places from `at` on the array's bytes.
record Read (array : List ℕ) (at upper : ℕ) (lines : List (List ℕ)) : Type 0 where
  faultless : (k : ℕ) → judged (length array) upper k lines ≡ verdict 0 0
  restores : (old : List ℕ) → carried upper lines old ≡ each (over (range at (length array)) (own array)) old

module _ (array : List ℕ) (upper : ℕ) (line : List ℕ) where
  -- the end record gives nothing
  end_read : Says line 0 1 [] → Read array (length array) upper (line ∷ [])
  unfolding judged fault_of ended carried obeyed
  end_read w =
      record {
        faultless = λ k. rw (w.whole, w.adds_up, w.such, w.long);
        restores = λ old. rw w.such (begins (own array) (length array) (length array) old (omega arith)).so_far;
      }

  -- a record of type 04 says the upper part for those behind it
  upper_read : (at next : ℕ) (lines : List (List ℕ)) → Says line 0 4 (next / 256 ∷ next % 256 ∷ []) → Read array at next lines
      → Read array at upper (line ∷ lines)
  unfolding judged fault_of carried obeyed
  upper_read at next lines w r =
      let e : data_at line 0 * 256 + data_at line 1 ≡ next = omega (arith, w.bytes 0 (omega arith), w.bytes 1 (omega arith)) in
      record {
        faultless = λ k. rw (w.whole, w.adds_up, w.such, w.long, e) (r.faultless (suc k));
        restores = λ old. rw (w.such, e) (r.restores old);
      }

  module _ (at : ℕ) (l : at + 16 ≤ length array) (u : upper ≡ at / 65536) (w : Says line (at % 65536) 0 (take 16 (drop at array))) where
    -- a data record says 16 bytes
    sixteen : length_of line ≡ 16
    sixteen = w.long ∙ length-16 array at l

    -- they are the array's
    same_byte : (k : ℕ) → at ≤ k → k < at + 16 → data_at line (k - at) ≡ get_or array k 0
    same_byte k p q =
        let e : at + (k - at) ≡ k = omega arith in
        w.bytes (k - at) (omega (arith, length-16 array at l)) ∙
        (get_or-take 16 (drop at array) (k - at) 0 (omega arith) ∙ (get_or-drop at array (k - at) 0 ∙ ap (λ (i : ℕ). get_or array i 0) e))

    -- and go where they were
    same_place : (old : List ℕ) → each (laid (start_of upper line) line) old ≡ each (over (range at (at + 16)) (own array)) old
    same_place old =
        let e : start_of upper line ≡ at = omega (arith, w.there) in
        let here : ℕ → Bool = range at (at + 16) in
        let read : Cell = λ k x. data_at line (k - at) in
        rw (e, sixteen)
        (each_alike (over here read) (over here (own array)) old
        (λ k i. over_alike here here read (own array) k (get_or old k 0) refl (λ c. let b = range_of_lem at (at + 16) k c in same_byte k b.0 b.1)))

    -- a data record gives 16 places the array's bytes
    data_read : (lines : List (List ℕ)) → at % 65536 + 16 ≤ 65536 → Read array (at + 16) upper lines → Read array at upper (line ∷ lines)
    unfolding judged fault_of carried obeyed
    data_read lines m r =
        let within : ltb 65536 (at % 65536 + 16) ≡ false = le-ltb 65536 (at % 65536 + 16) m in
        let inside : ltb (length array) (upper * 65536 + at % 65536 + 16) ≡ false = le-ltb (length array) (upper * 65536 + at % 65536 + 16) (omega arith) in
        record {
          faultless = λ k. rw (w.whole, w.adds_up, w.such, sixteen, w.there, within, inside) (r.faultless (suc k));
          restores =
              λ old.
              rw (w.such, same_place old, r.restores (each (over (range at (at + 16)) (own array)) old))
              (side_by_side (own array) at (at + 16) (length array) old (omega arith) l);
        }

-- the end's line, read
end_says : Says end_line 0 1 []
end_says = record_says 0 1 [] (omega arith) (omega arith) (omega arith) (λ k. omega arith)

-- the line of an upper part, read
upper_says : (next : ℕ) → next < 65536 → Says (upper_line next) 0 4 (next / 256 ∷ next % 256 ∷ [])
upper_says next l =
    record_says 0 4 (next / 256 ∷ next % 256 ∷ []) (omega arith) (omega arith) (omega arith)
    (front (next / 256) (next % 256 ∷ []) (omega arith) (front (next % 256) [] (omega arith) (λ k. omega arith)))

-- the line of 16 bytes, read
data_says : (array : List ℕ) → Bytes array → (at : ℕ) → at + 16 ≤ length array → Says (data_line array at) (at % 65536) 0 (take 16 (drop at array))
data_says array s at l =
    record_says (at % 65536) 0 (take 16 (drop at array)) (omega arith) (omega arith) (omega (arith, length-16 array at l))
    (take-small 16 (drop at array) (λ k. rw (get_or-drop at array k 0) (s (at + k))))

-- all lines of an array, read: the upper part is that of the place, or a record of type 04 comes first
lines_read : (array : List ℕ) → Bytes array → is_array (length array) ≡ true → Read array 0 0 (lines_of array)
lines_read array s i =
    by_lines array (λ at lines. (upper : ℕ) → (at % 65536 ≢ 0 → upper ≡ at / 65536) → Read array at upper lines)
    (λ upper u. end_read array upper end_line end_says)
    (λ at lines l f h upper u.
    let next : ℕ = at / 65536 in
    upper_read array upper (upper_line next) at next (data_line array at ∷ lines) (upper_says next (omega (arith, (array_long (length array) i).2)))
    (data_read array next (data_line array at) at l refl (data_says array s at l) lines (omega arith) (h next (λ n. omega arith))))
    (λ at lines l f m h upper u.
    let e : upper ≡ at / 65536 = u f in
    data_read array upper (data_line array at) at l e (data_says array s at l) lines m (h upper (λ n. omega arith)))
    i 0 (λ n. refl)

-- the lines in an array's text are its lines
lines_found : (array : List ℕ) → is_array (length array) ≡ true → lines_in (text_of array) ≡ lines_of array
unfolding text_of
lines_found array i =
    lines_joined (lines_of array)
    (by_lines array (λ at lines. Plain lines)
    (record_plain _ _ _, tt)
    (λ at lines l f h. (record_plain _ _ _, (record_plain _ _ _, h)))
    (λ at lines l f m h. (record_plain _ _ _, h))
    i)

-- every place given the array's byte, whatever was there, is the array
own_all : (array old : List ℕ) → length old ≡ length array → each (over (range 0 (length array)) (own array)) old ≡ array
own_all array old e =
    let all : ℕ → Bool = range 0 (length array) in
    sym
    (is_each (over all (own array)) old array (sym e)
    (λ k l. sym (over_in all (own array) k (get_or old k 0) (range_in 0 (length array) k (omega arith) (omega arith)))))

-- the text of an array is read without a fault, and gives that array
pub round_trip : (array before : List ℕ) → Bytes array → is_array (length array) ≡ true → length before ≡ length array
    → (reading_of (text_of array) (length before) ≡ reading 0 0) × (array_of (text_of array) before ≡ array)
unfolding reading_of array_of place_of
round_trip array before s i e =
    let r : Read array 0 0 (lines_of array) = lines_read array s i in (
      rw (e, i, lines_found array i, r.faultless 0),
      rw (e, i, lines_found array i, r.faultless 0, r.restores before) (own_all array before e),
    )

-- so do the characters that the writer leaves in an output
pub handed_on : (array output before : List ℕ) → Bytes array → length before ≡ length array → (written_of array (length output)).refusal ≡ 0
    → array_of (take (written_of array (length output)).characters (output_of array output)) before ≡ array
handed_on array output before s e w = rw (text_kept array output w) (round_trip array before s (fits array (length output) w).0 e).1
