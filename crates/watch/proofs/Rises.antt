-- How far a call may raise the words of the ledger: a bound that rises by an operation's longest duration stays one.
-- Assumes nothing.
use Prim.Native.Nat.{ℕ, zero, suc, ◌+◌, ◌<◌, ◌≤◌}
use mathlib.Core.Bool.{Bool, true, false, cond}
use mathlib.Core.List.{List, [], ◌∷◌}
use mathlib.Core.Path.{◌≡◌, refl}
use native.Mathlib.Nat.{le_trans}
use native.Mathlib.Omega.{arith}
use borrow.Author.Tests.{ltb-true, eqb-true}
use lib.Dec.{eqb}
use lib.ListN.{get_or, set}
use lib.Text.{eqt}
use Rattle.calls.specs.declared.Signals.{Signals}
use Rattle.part.specs.Frame.{Reply}
use Rattle.ledger.specs.Ledger.{Ledger, is_account, at, came_off, turned, charged, booked}
use Rattle.watch.specs.Watch.{top, Bounded}
use Rattle.watch.proofs.Bounds.{no_word_above, top_most}

-- one word changes, and none is above the bound
set-low : (table : List ℕ) (place k v bound : ℕ) → get_or table k 0 ≤ bound → v ≤ bound
    → get_or (set table place v) k 0 ≤ bound
set-low [] place k v bound old new = old
set-low (x ∷ xs) zero zero v bound old new = new
set-low (x ∷ xs) zero (suc k) v bound old new = old
set-low (x ∷ xs) (suc place) zero v bound old new = old
set-low (x ∷ xs) (suc place) (suc k) v bound old new = set-low xs place k v bound old new

-- an account's entry rises by no more than so much
at_low : (account k bound more : ℕ) (f : ℕ → ℕ) (table : List ℕ) → ((x : ℕ) → f x ≤ x + more)
    → ((j : ℕ) → j < 256 → get_or table j 0 ≤ bound) → k < 256 → get_or (at account f table) k 0 ≤ bound + more
at_low account k bound more f table rise low l = by (is_account account) refl
  where
    here : get_or table k 0 ≤ bound + more
    here = let old = low k l in omega (arith, old)

    by : (b : Bool) → is_account account ≡ b
        → get_or (cond b (set table account (f (get_or table account 0))) table) k 0 ≤ bound + more
    by true e =
        let old = low account (ltb-true account 256 e) in
        let new = rise (get_or table account 0) in
        set-low table account k (f (get_or table account 0)) (bound + more) here (omega (arith, old, new))
    by false e = here

-- what a call makes of the ledger
pub rises : (bound busy : ℕ) (signals : Signals) (r : Reply) (account : ℕ) (l : Ledger) → Bounded bound l
    → (r.refusal ≡ 0 → busy ≤ 60000000) → Bounded (bound + 60000000) (booked busy signals r account l)
unfolding booked
rises bound busy signals r account l low short = by (eqb r.refusal 0) refl
  where
    fresh : (k : ℕ) → k < 256 → (get_or l.totals k 0 ≤ bound) × (get_or l.numbers k 0 ≤ bound)
    fresh k m =
        let words = no_word_above 256 k l.totals l.numbers m in (le_trans words.0 low, le_trans words.1 low)

    after : (ticks : ℕ) → ticks ≤ 60000000 → (begun idle : Bool)
        → Bounded (bound + 60000000) (turned begun idle account (charged ticks l))
    after ticks few begun idle = top_most 256 (bound + 60000000) _ _ (λ k m. words begun idle k m)
      where
        paid : (k : ℕ) → k < 256 → get_or (at l.running.account
            (λ total. total + ticks) l.totals) k 0 ≤ bound + 60000000
        paid k m = at_low l.running.account k bound 60000000 (λ total. total + ticks) l.totals (λ x. omega (arith, few))
            (λ j n. (fresh j n).0) m

        more : (k : ℕ) → k < 256 → get_or (at account suc l.numbers) k 0 ≤ bound + 60000000
        more k m = at_low account k bound 60000000 suc l.numbers (λ x. omega arith) (λ j n. (fresh j n).1) m

        same : (k : ℕ) → k < 256 → get_or l.numbers k 0 ≤ bound + 60000000
        same k m = let old = (fresh k m).1 in omega (arith, old)

        words : (begun idle : Bool) (k : ℕ) → k < 256
            → (get_or (turned begun idle account (charged ticks l)).totals k 0 ≤ bound + 60000000)
            × (get_or (turned begun idle account (charged ticks l)).numbers k 0 ≤ bound + 60000000)
        words true idle k m = (paid k m, more k m)
        words false true k m = (paid k m, same k m)
        words false false k m = (paid k m, same k m)

    by : (b : Bool) → eqb r.refusal 0 ≡ b
        → Bounded (bound + 60000000)
        (cond b (turned (eqt r.outcome "begun") (eqb r.device.busy 0) account (charged (came_off busy signals) l)) l)
    by true e =
        let left = short (eqb-true r.refusal 0 e) in
        after (came_off busy signals) (omega (arith, left)) (eqt r.outcome "begun") (eqb r.device.busy 0)
    by false e = let old : top l.totals l.numbers ≤ bound = low in omega (arith, old)
