-- What lines do to an array, said by stores at one place after the other. Of a text that is written out the stores are
-- computed, for an array of which only the length is known. Assumes nothing.
use Prim.Native.Nat.{ℕ, zero, suc, ◌+◌, ◌-◌, ◌<◌}
use mathlib.Core.Bool.{Bool, false, cond}
use mathlib.Core.List.{List, [], ◌∷◌}
use mathlib.Core.Logic.{◌≢◌}
use mathlib.Core.Path.{◌≡◌, refl, sym, ap, ◌∙◌}
use native.Mathlib.Decide.{dec_lt, ℕ_discrete}
use native.Mathlib.Nat.{add-zero}
use native.Mathlib.Omega.{arith}
use lib.Dec.{eqb}
use lib.ListN.{length, get_or, set, length-set}
use lib.Seq.{sets, get_or-set_same, get_or-set_other}
use Rattle.cells.specs.Each.{each, stored}
use Rattle.cells.specs.Range.{range}
use Rattle.cells.proofs.Places.{is_each, over_in, over_out}
use Rattle.cells.proofs.Runs.{range_in, range_before, range_behind, side_by_side, begins}
use Rattle.ihex_layout.specs.Layout.{length_of, kind_of, data_at}
use Rattle.ihex_read.specs.Reader.{lines_in, start_of, upper_behind, obeyed, carried, reading, reading_of, array_of}

module _ (value : ℕ → ℕ) where
  -- the values of n places from i on
  unfoldable values_from : ℕ → ℕ → List ℕ
  values_from i zero = []
  values_from i (suc n) = value i ∷ values_from (suc i) n

  -- a place that takes its value is a store
  one_store : (i : ℕ) (xs : List ℕ) → set xs i (value i) ≡ each (stored (range i (suc i)) value) xs
  one_store i xs =
      is_each (stored here value) xs (set xs i (value i)) (length-set xs i (value i)) (λ k l. by k l (ℕ_discrete k i))
    where
      here : ℕ → Bool
      here = range i (suc i)

      apart : (k : ℕ) → k ≢ i → Dec (k < i) → here k ≡ false
      apart k n (yes l) = range_before i (suc i) k l
      apart k n (no l) = range_behind i (suc i) k (omega arith)

      by : (k : ℕ) → k < length xs → Dec (k ≡ i) → get_or (set xs i (value i)) k 0 ≡ stored here value k (get_or xs k 0)
      by k l (yes e) =
          let m : i < length xs = omega arith in
          rw e
          (get_or-set_same xs i (value i) 0 m ∙
          sym (over_in here (λ j x. value j) i (get_or xs i 0) (range_in i (suc i) i (omega arith) (omega arith))))
      by k l (no n) =
          get_or-set_other xs i k (value i) 0 n ∙
          sym (over_out here (λ j x. value j) k (get_or xs k 0) (apart k n (dec_lt k i)))

  -- places side by side that take theirs are stores, one after the other
  stores : (n i : ℕ) (xs : List ℕ) → each (stored (range i (i + n)) value) xs ≡ sets xs i (values_from i n)
  unfolding values_from
  stores zero i xs = rw add-zero (sym (begins (λ k x. value k) i i xs (omega arith)).so_far)
  stores (suc n) i xs =
      let e : i + suc n ≡ suc i + n = omega arith in
      rw e
      (sym (side_by_side (λ k x. value k) i (suc i) (suc i + n) xs (omega arith) (omega arith)) ∙
      (ap (each (stored (range (suc i) (suc i + n)) value)) (sym (one_store i xs)) ∙
      stores n (suc i) (set xs i (value i))))

-- a data record stores its bytes
abbrev stored_by : ℕ → List ℕ → List ℕ → List ℕ
stored_by start line array = sets array start (values_from (λ k. data_at line (k - start)) start (length_of line))

-- the array after the lines, by stores
unfoldable pub stored_in : ℕ → List (List ℕ) → List ℕ → List ℕ
unfolding values_from
stored_in upper [] array = array
stored_in upper (line ∷ lines) array =
    stored_in (upper_behind upper line) lines
    (cond (eqb (kind_of line) 0) (stored_by (start_of upper line) line array) array)

-- it is what the lines make of the array
carried_stored : (upper : ℕ) (lines : List (List ℕ)) (array : List ℕ)
    → carried upper lines array ≡ stored_in upper lines array
unfolding carried obeyed stored_in
carried_stored upper [] array = refl
carried_stored upper (line ∷ lines) array =
    let start : ℕ = start_of upper line in
    rw (stores (λ k. data_at line (k - start)) (length_of line) start array)
    (carried_stored (upper_behind upper line) lines (cond (eqb (kind_of line) 0) (stored_by start line array) array))

-- and what a text makes of it that is accepted
pub text_stored : (text array : List ℕ) (size : ℕ) → length array ≡ size → reading_of text size ≡ reading 0 0
    → array_of text array ≡ stored_in 0 (lines_in text) array
unfolding array_of
text_stored text array size h r = rw (h, r) (carried_stored 0 (lines_in text) array)
