-- The types of records and their numbers: a number names the type that has it, and no other. Assumes nothing.
use Prim.Native.Nat.{ℕ}
use mathlib.Core.Bool.{Bool, true, false, true≢false, cond, not, ◌||◌}
use mathlib.Core.Path.{◌≡◌, refl, sym, ap, ◌∙◌}
use native.Mathlib.Decide.{ℕ_discrete}
use borrow.Author.Tests.{ne_eqb}
use lib.Dec.{eqb}
use Rattle.std.specs.Prelude.{Option, Some, None, is_some, is_none}
use Rattle.ihex_layout.specs.declared.Kind.{Kind}
use Rattle.ihex_layout.specs.declared.Kind.TheVariants.{Data, End, Upper}
use Rattle.ihex_layout.specs.Layout.{kind_number, kind_named}

-- a number that names a type is that type's
number : Option Kind → ℕ
number None = 256
number (Some k) = kind_number k

pub names_number : (n : ℕ) (k : Kind) → kind_named n ≡ Some k → n ≡ kind_number k
unfolding number
names_number n k e = by (ℕ_discrete n 0) (ℕ_discrete n 1) (ℕ_discrete n 4)
  where
    by : Dec (n ≡ 0) → Dec (n ≡ 1) → Dec (n ≡ 4) → n ≡ kind_number k
    by (yes p) q r = p ∙ ap number (rw p at e)
    by (no p) (yes q) r = q ∙ ap number (rw q at e)
    by (no p) (no q) (yes r) = r ∙ ap number (rw r at e)
    by (no p) (no q) (no r) =
        let none = rw (ne_eqb n 0 p, ne_eqb n 1 q, ne_eqb n 4 r) at e in
        absurd (true≢false (sym (ap is_some none)))

-- and a number that names none is none of the three
pub names_none : (n : ℕ) → is_none (kind_named n) ≡ not (eqb n 0 || eqb n 1 || eqb n 4)
names_none n = by (eqb n 0) (eqb n 1) (eqb n 4)
  where
    by : (a b c : Bool)
        → is_none (cond a (Some Data) (cond b (Some End) (cond c (Some Upper) None))) ≡ not (a || b || c)
    by true b c = refl
    by false true c = refl
    by false false true = refl
    by false false false = refl
