-- The most that an account was billed for one operation, after a series. Assumes nothing.
use Prim.Native.Nat.{ℕ, ◌+◌, ◌-◌, ◌<◌, ◌≤◌, min, max}
use mathlib.Core.Bool.{Bool, true, false, cond}
use mathlib.Core.List.{List, ◌∷◌}
use mathlib.Core.Path.{◌≡◌, refl, ap, subst, ◌∙◌}
use native.Mathlib.Decide.{ℕ_discrete}
use native.Mathlib.Omega.{arith}
use borrow.Author.Tests.{eq-eqb, ne_eqb}
use lib.Dec.{eqb}
use lib.ListN.{get_or}
use Rattle.device.specs.declared.Device.{Device}
use Rattle.part.specs.Busy.{lasts_for}
use Rattle.ledger.specs.declared.Running.{Running}
use Rattle.ledger.specs.Ledger.{Ledger, nobody, at, paid}
use Rattle.ledger_series.specs.Entries.{Entry, Done, calls, last_ledger}
use Rattle.ledger_series.specs.Operations.{stops, ticks, passed, operations, bills, largest}
use Rattle.ledger_series.specs.Ledgers.{Whole, Fair, Right, most_after}
use Rattle.ledger_series.proofs.Tables.{entry_at}
use Rattle.ledger_series.proofs.Steps.{Stepped}
use Rattle.ledger_series.proofs.Folds.{right_step, paid_account, paid_billed, most_billed, off_then, in_the_end}

most_begun : (own : Bool) (most bill : ℕ) (bs : List ℕ) → max (max most (cond own (0 + bill) 0)) (largest bs) ≡ max most (largest (cond own (bill ∷ bs) bs))
unfolding largest
most_begun true most bill bs = omega arith
most_begun false most bill bs = omega arith

module _ (account : ℕ) (c : Done) (l : Ledger) (busy : ℕ) (low : account < 256) (w : Whole l) (fair : Fair l busy) where
  abbrev r : Running
  r = l.running

  abbrev off : ℕ
  off = min busy (ticks c)

  abbrev after : List ℕ
  after = at r.account (λ most. max most (paid r off).billed) l.most

  -- an account's most, after what came off was billed
  most_entry : get_or after account 0 ≡ max (get_or l.most account 0) (cond (eqb r.account account) (r.billed + off) 0)
  most_entry = by (ℕ_discrete r.account account)
    where
      by : Dec (r.account ≡ account) → get_or after account 0 ≡ max (get_or l.most account 0) (cond (eqb r.account account) (r.billed + off) 0)
      by (yes e) =
          subst (λ (a : ℕ). get_or after a 0 ≡ max (get_or l.most a 0) (cond (eqb r.account a) (r.billed + off) 0)) e
          (most_billed c l busy w fair (omega arith) ∙ rw (eq-eqb r.account r.account refl))
      by (no n) = entry_at r.account account (λ most. max most (paid r off).billed) l.most w.most low ∙ rw (ne_eqb r.account account n) (omega arith)

  -- it has what may come off later, if the operation goes on
  most_going : (busy' p : ℕ) → busy' ≡ cond (stops c) 0 (busy - ticks c)
      → max (get_or after account 0) (let on = cond (eqb busy' 0) nobody (paid r off) in cond (eqb on.account account) (on.billed + min busy' p) 0)
      ≡ max (get_or l.most account 0) (cond (eqb r.account account) (r.billed + min busy (ticks c + cond (stops c) 0 p)) 0)
  most_going busy' p left = rw most_entry (by (ℕ_discrete r.account account) (ℕ_discrete busy' 0))
    where
      whole : min busy (ticks c) + min busy' p ≡ min busy (ticks c + cond (stops c) 0 p)
      whole = off_then (stops c) busy busy' (ticks c) p left

      by : Dec (r.account ≡ account) → Dec (busy' ≡ 0)
          → max (max (get_or l.most account 0) (cond (eqb r.account account) (r.billed + off) 0))
          (cond (eqb (cond (eqb busy' 0) nobody (paid r off)).account account) ((cond (eqb busy' 0) nobody (paid r off)).billed + min busy' p) 0)
          ≡ max (get_or l.most account 0) (cond (eqb r.account account) (r.billed + min busy (ticks c + cond (stops c) 0 p)) 0)
      by (yes e) (yes z) = rw (eq-eqb busy' 0 z, eq-eqb r.account account e, ne_eqb 256 account (λ q. omega arith), ← whole) (omega arith)
      by (yes e) (no n) =
          let short = (fair (omega arith)).1 in
          rw (ne_eqb busy' 0 n, paid_account r off, eq-eqb r.account account e, paid_billed r off (omega arith) (omega arith), ← whole) (omega arith)
      by (no m) (yes z) = rw (eq-eqb busy' 0 z, ne_eqb r.account account m, ne_eqb 256 account (λ q. omega arith)) (omega arith)
      by (no m) (no n) = rw (ne_eqb busy' 0 n, paid_account r off, ne_eqb r.account account m) (omega arith)

most_step : (account : ℕ) (c : Done) (cs : List Done) (l l' : Ledger) (busy busy' : ℕ) → account < 256 → Whole l → Fair l busy → Stepped c l l' busy busy'
    → most_after account l' busy' cs ≡ most_after account l busy (c ∷ cs)
unfolding passed operations bills
most_step account c cs l l' busy busy' low w fair (Stepped.refusedly acc beg kept same) = rw (acc, beg, kept, same)
most_step account c cs l l' busy busy' low w fair (Stepped.beginning acc beg own idle lasts short after) =
    let all_off : min busy (ticks c + cond (stops c) 0 (passed cs)) ≡ min busy (ticks c) = omega arith in
    rw (acc, beg, after, lasts, all_off, most_entry account c l busy low w fair)
    (most_begun (eqb c.account account) (max (get_or l.most account 0) (cond (eqb l.running.account account) (l.running.billed + min busy (ticks c)) 0))
    (min (lasts_for c.call) (passed cs)) (bills account (operations cs)))
most_step account c cs l l' busy busy' low w fair (Stepped.going acc beg left after) =
    rw (acc, beg, after) (ap (λ (m : ℕ). max m (largest (bills account (operations cs)))) (most_going account c l busy low w fair busy' (passed cs) left))

-- what was billed so far is in it already
so_far : (account : ℕ) (l : Ledger) (busy : ℕ) → Fair l busy → account < 256
    → get_or l.most account 0 ≡ max (max (get_or l.most account 0) (cond (eqb l.running.account account) (l.running.billed + min busy 0) 0)) 0
so_far account l busy fair low = by (ℕ_discrete l.running.account account)
  where
    by : Dec (l.running.account ≡ account)
        → get_or l.most account 0 ≡ max (max (get_or l.most account 0) (cond (eqb l.running.account account) (l.running.billed + min busy 0) 0)) 0
    by (yes e) =
        let billed = subst (λ (a : ℕ). l.running.billed ≤ get_or l.most a 0) e (fair (omega arith)).0 in
        rw (eq-eqb l.running.account account e) (omega arith)
    by (no n) = rw (ne_eqb l.running.account account n) (omega arith)

pub most : (account : ℕ) (es : List Entry) (d : Device) (l : Ledger) → account < 256 → Right l d.busy
    → get_or (last_ledger es d l).most account 0 ≡ most_after account l d.busy (calls es d l)
unfolding passed operations bills largest
most account es d l low =
    in_the_end Right right_step (λ (last l : Ledger) (busy : ℕ) (cs : List Done). get_or last.most account 0
    ≡ most_after account l busy cs) (λ l busy r. so_far account l busy r.fair low)
    (λ last c cs l l' busy' r after e. e ∙ most_step account c cs l l' c.call.device.busy busy' low r.whole r.fair after) es d l
