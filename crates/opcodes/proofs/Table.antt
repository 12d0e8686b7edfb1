-- The table's rule holds of every opcode's row, and each listed opcode has one row: each by one test that is computed over the
-- whole table. Assumes nothing.
use Prim.Native.Nat.{ℕ, zero, suc, ◌<◌}
use mathlib.Core.Bool.{Bool, true, false, cond, not, ◌&&◌, and-eq-true_iff}
use mathlib.Core.List.{List, [], ◌∷◌}
use mathlib.Core.Path.{◌≡◌, refl}
use native.Mathlib.Nat.{not-suc-le-zero, le_of_suc-le-suc}
use borrow.Author.Tests.{eq-eqb, not-true}
use lib.Dec.{eqb}
use lib.ListN.{length, get_or}
use Rattle.std.specs.List.{list_all}
use Rattle.std.proofs.lemmas.List.Sums.{AllPass-from_list_all}
use Rattle.opcodes.specs.declared.Row.{Row}
use Rattle.opcodes.specs.Rows.{rows, lookup, row_of}
use Rattle.opcodes.specs.Rule.{rule, sleep_rule}

-- what passes at every row, and at an opcode that is not listed, passes at the row that is looked up
looked_up : (test : Row → Bool) (rs : List Row) (code : ℕ) → list_all test rs ≡ true → test (lookup [] code) ≡ true → test (lookup rs code) ≡ true
unfolding lookup
looked_up test [] code e n = n
looked_up test (r ∷ rs) code e n =
    let w : (test r ≡ true) × (list_all test rs ≡ true) = (and-eq-true_iff (test r) (list_all test rs)).0 e in
    by (eqb r.code code) w.0 (looked_up test rs code w.1 n)
  where
    by : (b : Bool) → test r ≡ true → test (lookup rs code) ≡ true → test (cond b r (lookup rs code)) ≡ true
    by true p q = p
    by false p q = q

-- every row keeps to the rule
pub rule_kept : (code : ℕ) → rule (row_of code) ≡ true
unfolding lookup rows row_of
rule_kept code = looked_up rule rows code refl refl

-- and to that of deep power-down
pub sleep_kept : (code : ℕ) → sleep_rule (row_of code) ≡ true
unfolding lookup rows row_of
sleep_kept code = looked_up sleep_rule rows code refl refl

-- no row has that opcode
absent : ℕ → List Row → Bool
absent code rs = list_all (λ r. not (eqb code r.code)) rs

-- no two rows have the same opcode
distinct : List Row → Bool
distinct [] = true
distinct (r ∷ rs) = absent r.code rs && distinct rs

missed : (code : ℕ) (rs : List Row) (k : ℕ) (d : Row) → absent code rs ≡ true → k < length rs → eqb code (get_or rs k d).code ≡ false
unfolding absent
missed code rs k d e l = not-true _ (AllPass-from_list_all (λ r. not (eqb code r.code)) rs e k d l)

found : (rs : List Row) (k : ℕ) (d : Row) → distinct rs ≡ true → k < length rs → lookup rs (get_or rs k d).code ≡ get_or rs k d
unfolding distinct lookup
found [] k d e l = absurd (not-suc-le-zero l)
found (r ∷ rs) zero d e l = rw (eq-eqb r.code r.code refl)
found (r ∷ rs) (suc k) d e l =
    let w : (absent r.code rs ≡ true) × (distinct rs ≡ true) = (and-eq-true_iff (absent r.code rs) (distinct rs)).0 e in
    rw (missed r.code rs k d w.0 (le_of_suc-le-suc l)) (found rs k d w.1 (le_of_suc-le-suc l))

-- each row of the table is the row of its opcode
pub each_found : (k : ℕ) (d : Row) → k < length rows → row_of (get_or rows k d).code ≡ get_or rows k d
unfolding distinct absent rows row_of
each_found k d l = found rows k d refl l
