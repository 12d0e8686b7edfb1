-- A table of the ledger in which one entry changes. Assumes nothing.
use Prim.Native.Nat.{ℕ, zero, suc, ◌+◌, ◌<◌}
use mathlib.Core.Bool.{Bool, true, false, cond}
use mathlib.Core.List.{List, [], ◌∷◌}
use mathlib.Core.Logic.{◌≢◌}
use mathlib.Core.Path.{◌≡◌, refl, sym, ap, ◌∙◌}
use native.Mathlib.Decide.{ℕ_discrete}
use native.Mathlib.Nat.{add_assoc, not-suc-le-zero, le_of_suc-le-suc}
use native.Mathlib.Omega.{arith}
use borrow.Author.Tests.{lt-ltb, ltb-true, eq-eqb, ne_eqb}
use lib.Dec.{eqb}
use lib.ListN.{length, get_or, set, length-set}
use lib.Seq.{get_or-set_same, get_or-set_other}
use Rattle.ledger.specs.Ledger.{is_account, at}
use Rattle.ledger_series.specs.Operations.{sum}

-- its length stays
pub length_at : (account : ℕ) (f : ℕ → ℕ) (table : List ℕ) → length (at account f table) ≡ length table
length_at account f table = by (is_account account)
  where
    by : (b : Bool) → length (cond b (set table account (f (get_or table account 0))) table) ≡ length table
    by true = length-set table account (f (get_or table account 0))
    by false = refl

-- what an entry is afterwards
pub entry_at : (account k : ℕ) (f : ℕ → ℕ) (table : List ℕ) → length table ≡ 256 → k < 256
    → get_or (at account f table) k 0 ≡ cond (eqb account k) (f (get_or table k 0)) (get_or table k 0)
entry_at account k f table long l = by (ℕ_discrete account k)
  where
    elsewhere : k ≢ account → (b : Bool) → get_or (cond b (set table account (f (get_or table account 0))) table) k 0 ≡ get_or table k 0
    elsewhere n true = get_or-set_other table account k (f (get_or table account 0)) 0 n
    elsewhere n false = refl

    by : Dec (account ≡ k) → get_or (at account f table) k 0 ≡ cond (eqb account k) (f (get_or table k 0)) (get_or table k 0)
    by (yes e) = rw (e, lt-ltb k 256 l, eq-eqb k k refl) (get_or-set_same table k (f (get_or table k 0)) 0 (omega arith))
    by (no n) = rw (ne_eqb account k n) (elsewhere (λ e. n (sym e)) (is_account account))

-- a sum with one number raised
sum-set : (xs : List ℕ) (k more : ℕ) → k < length xs → sum (set xs k (get_or xs k 0 + more)) ≡ sum xs + more
unfolding sum
sum-set [] k more l = absurd (not-suc-le-zero l)
sum-set (x ∷ xs) zero more l = omega arith
sum-set (x ∷ xs) (suc k) more l = ap (λ (s : ℕ). x + s) (sum-set xs k more (le_of_suc-le-suc l)) ∙ sym (add_assoc x (sum xs) more)

pub sum-at : (account more : ℕ) (table : List ℕ) → length table ≡ 256 → sum (at account (λ total. total + more) table) ≡ sum table + cond (is_account account) more 0
sum-at account more table long = by (is_account account) refl
  where
    by : (b : Bool) → is_account account ≡ b → sum (cond b (set table account (get_or table account 0 + more)) table) ≡ sum table + cond b more 0
    by true e = sum-set table account more (let l = ltb-true account 256 e in omega arith)
    by false e = omega arith
