-- Going on at 0 past a memory's last byte, in straight runs: the place of the next byte, without a remainder for each. Assumes nothing.
use Prim.Native.Nat.{ℕ, ◌+◌, ◌-◌, ◌%◌, ◌<◌, ◌≤◌, min}
use mathlib.Core.List.{List}
use mathlib.Core.Path.{◌≡◌, sym, ap, ◌∙◌}
use native.Mathlib.Nat.{mod-add-mod, mod-eq_of_lt, mod_self}
use native.Mathlib.Omega.{arith}
use lib.ListN.{length, get_or}
use Rattle.cells.specs.Each.{each}
use Rattle.cells.specs.Range.{run}
use Rattle.cells.proofs.Runs.{Reached, begins, runs_on}

module _ (size start from at next k : ℕ) (here : next ≡ (start + (at - from)) % size) (p : from ≤ at) (q : at ≤ k) where
  onward : (start + (k - from)) % size ≡ (next + (k - at)) % size
  onward =
      let e : start + (k - from) ≡ start + (at - from) + (k - at) = omega arith in
      ap (λ (n : ℕ). n % size) e ∙ (sym (mod-add-mod (start + (at - from)) size (k - at)) ∙ ap (λ (n : ℕ). (n + (k - at)) % size) (sym here))

  -- within the run the places follow each other
  straight : next + (k - at) < size → next + (k - at) ≡ (start + (k - from)) % size
  straight l = sym (onward ∙ mod-eq_of_lt l)

  -- and behind the memory's last byte comes its first
  around : next + (k - at) ≡ size → 0 ≡ (start + (k - from)) % size
  around e = sym (onward ∙ (ap (λ (n : ℕ). n % size) e ∙ mod_self size))

-- A copy of the memory from `start` on has reached the output's place `at`; its next byte comes from `next`, unless it is done.
pub record Copying (memory : List ℕ) (start from to : ℕ) (xs : List ℕ) (at next : ℕ) (ys : List ℕ) : Type 0 where
  pub reached : Reached (λ k x. get_or memory ((start + (k - from)) % length memory) 0) from to xs at ys
  pub inside : next < length memory
  pub here : at < to → next ≡ (start + (at - from)) % length memory

pub copy_begins : (memory : List ℕ) (start from to : ℕ) (xs : List ℕ) → from ≤ to → start < length memory → Copying memory start from to xs from start xs
copy_begins memory start from to xs p l =
    record {
      reached = begins (λ k x. get_or memory ((start + (k - from)) % length memory) 0) from to xs p;
      inside = l;
      here = λ t. let e : start + (from - from) ≡ start = omega arith in sym (ap (λ (n : ℕ). n % length memory) e ∙ mod-eq_of_lt l);
    }

-- one straight run more, to the output's end or the memory's
pub copies_on : {memory : List ℕ} {start from to : ℕ} {xs : List ℕ} {at next : ℕ} {ys : List ℕ} → Copying memory start from to xs at next ys
    → (n : ℕ) (zs : List ℕ) → n ≡ min (to - at) (length memory - next) → zs ≡ each (run at (at + n) memory next) ys
    → Copying memory start from to xs (at + n) 0 zs
copies_on {memory} {start} {from} {to} {xs} {at} {next} {ys} r n zs w z =
    let p : from ≤ at = r.reached.low in
    let l : next < length memory = r.inside in
    record {
      reached =
          runs_on r.reached (λ k x. get_or memory (next + (k - at)) 0) (at + n) zs (omega arith) (omega arith) z
          (λ k x a b. ap (λ (i : ℕ). get_or memory i 0) (straight (length memory) start from at next k (r.here (omega arith)) p a (omega arith)));
      inside = omega arith;
      here = λ s. around (length memory) start from at next (at + n) (r.here (omega arith)) p (omega arith) (omega arith);
    }

-- one run of the whole memory more, or what the output still takes of it
pub turns_on : {memory : List ℕ} {start from to : ℕ} {xs : List ℕ} {at : ℕ} {ys : List ℕ} → Copying memory start from to xs (min at to) 0 ys
    → at < to → (n : ℕ) (zs : List ℕ) → n ≡ min (to - at) (length memory) → zs ≡ each (run at (at + n) memory 0) ys
    → Copying memory start from to xs (min (at + length memory) to) 0 zs
turns_on {memory} {start} {from} {to} {xs} {at} {ys} r t n zs w z =
    let here : min at to ≡ at = omega arith in
    let there : min (at + length memory) to ≡ at + n = omega arith in
    rw there (copies_on (rw here at r) n zs (omega arith) z)
