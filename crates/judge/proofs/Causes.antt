-- The first of the causes that hold: where it is none no cause holds, and otherwise it holds and none before it does.
-- Assumes nothing.
use mathlib.Core.Bool.{Bool, true, false, false≢true, cond}
use mathlib.Core.List.{List, [], ◌∷◌}
use mathlib.Core.Path.{◌≡◌, refl, sym, ap, ◌∙◌}
use borrow.Author.Tests.{not-false}
use Rattle.std.specs.Prelude.{Option, Some, is_some, is_none, unwrap_or, find}
use Rattle.opcodes.specs.declared.Row.{Row}
use Rattle.device.specs.declared.Device.{Device}
use Rattle.device.specs.Device.{awake}
use Rattle.judge.specs.declared.Facts.{Facts}
use Rattle.judge.specs.declared.Cause.{Cause}
use Rattle.judge.specs.Causes.{holds, causes, NoneOf, IsFirst, cause_of}

module _ (test : Cause → Bool) where
  none_of : (list : List Cause) → is_none (find test list) ≡ true → NoneOf test list
  none_of [] e = tt
  none_of (cause ∷ rest) e = by (test cause) refl (none_of rest) e
    where
      by : (b : Bool) → test cause ≡ b → (is_none (find test rest) ≡ true → NoneOf test rest)
          → is_none (cond b (Some cause) (find test rest)) ≡ true
          → (test cause ≡ false) × NoneOf test rest
      by true t further e = absurd (false≢true e)
      by false t further e = (t, further e)

  is_first : (list : List Cause) (first : Cause) → find test list ≡ Some first → IsFirst test list first
  is_first [] first e = absurd (false≢true (ap is_some e))
  is_first (cause ∷ rest) first e = by (test cause) refl (is_first rest first) e
    where
      by : (b : Bool) → test cause ≡ b → (find test rest ≡ Some first → IsFirst test rest first)
          → cond b (Some cause) (find test rest) ≡ Some first
          → IsFirst test (cause ∷ rest) first
      by true t further e =
          let same : cause ≡ first = ap (λ (o : Option Cause). unwrap_or o cause) e in
          record {
            earlier = [];
            later = rest;
            listed = ap (λ (c : Cause). c ∷ rest) same;
            held = ap test (sym same) ∙ t;
            none_earlier = tt;
          }
      by false t further e =
          let found = further e in
          record {
            earlier = cause ∷ found.earlier;
            later = found.later;
            listed = ap (λ (list : List Cause). cause ∷ list) found.listed;
            held = found.held;
            none_earlier = (t, found.none_earlier);
          }

module _ (r : Row) (d : Device) (f : Facts) where
  -- no cause of the list holds
  pub unhindered : is_none (cause_of r d f) ≡ true → NoneOf (λ cause. holds cause r d f) causes
  unfolding cause_of
  unhindered e = none_of (λ cause. holds cause r d f) causes e

  -- the cause is the first that holds
  pub hindered : (first : Cause) → cause_of r d f ≡ Some first → IsFirst (λ cause. holds cause r d f) causes first
  unfolding cause_of
  hindered first e = is_first (λ cause. holds cause r d f) causes first e

  -- a part without a cause is awake
  pub up : is_none (cause_of r d f) ≡ true → awake d.mode ≡ true
  up e = not-false (awake d.mode) (unhindered e).1.0
