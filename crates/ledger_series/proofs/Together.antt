-- All totals together after a series. Assumes nothing.
use Prim.Native.Nat.{ℕ, ◌+◌, ◌≤◌, min}
use mathlib.Core.Bool.{Bool, true, false, cond}
use mathlib.Core.List.{List, ◌∷◌}
use mathlib.Core.Path.{◌≡◌, refl, ◌∙◌}
use native.Mathlib.Decide.{ℕ_discrete}
use native.Mathlib.Omega.{arith}
use borrow.Author.Tests.{lt-ltb, ne_eqb}
use lib.Dec.{eqb}
use Rattle.device.specs.declared.Device.{Device}
use Rattle.ledger.specs.declared.Running.{Running}
use Rattle.ledger.specs.Ledger.{Ledger, is_account, nobody, paid}
use Rattle.ledger_series.specs.Entries.{Entry, Done, calls, last_ledger}
use Rattle.ledger_series.specs.Operations.{stops, ticks, passed, sum, busy_ticks}
use Rattle.ledger_series.specs.Ledgers.{Whole, nobodys}
use Rattle.ledger_series.proofs.Tables.{sum-at}
use Rattle.ledger_series.proofs.Steps.{Stepped}
use Rattle.ledger_series.proofs.Folds.{whole_step, paid_account, off_then, in_the_end}

-- where no tick is left it does not matter whether somebody runs
still_nobodys : (r : Running) (off busy p : ℕ)
    → cond (is_account (cond (eqb busy 0) nobody (paid r off)).account) 0 (min busy p) ≡ cond (is_account r.account) 0 (min busy p)
still_nobodys r off busy p = by (ℕ_discrete busy 0)
  where
    nothing_left : (b : Bool) → min 0 p ≡ cond b 0 (min 0 p)
    nothing_left true = omega arith
    nothing_left false = refl

    by : Dec (busy ≡ 0) → cond (is_account (cond (eqb busy 0) nobody (paid r off)).account) 0 (min busy p) ≡ cond (is_account r.account) 0 (min busy p)
    by (yes z) = rw z (nothing_left (is_account r.account))
    by (no n) = rw (ne_eqb busy 0 n, paid_account r off)

-- to both sides what nobody is billed is added
together_begun : (somebody : Bool) (x sums later busy t all : ℕ) → busy ≤ t → x + 0 ≡ sums + cond somebody (min busy t) 0 + later
    → x + cond somebody 0 (min busy (t + all)) ≡ sums + (min busy t + later)
together_begun true x sums later busy t all idle e = omega arith
together_begun false x sums later busy t all idle e = omega arith

together_going : (somebody : Bool) (x sums later off rest whole : ℕ) → off + rest ≡ whole → x + cond somebody 0 rest ≡ sums + cond somebody off 0 + later
    → x + cond somebody 0 whole ≡ sums + (off + later)
together_going true x sums later off rest whole p e = omega arith
together_going false x sums later off rest whole p e = omega arith

together_step : (x : ℕ) (c : Done) (cs : List Done) (l l' : Ledger) (busy' : ℕ) → Whole l → Stepped c l l' c.call.device.busy busy'
    → x + nobodys l' busy' cs ≡ sum l'.totals + busy_ticks cs → x + nobodys l c.call.device.busy (c ∷ cs) ≡ sum l.totals + busy_ticks (c ∷ cs)
unfolding passed busy_ticks
together_step x c cs l l' busy' w (Stepped.refusedly acc beg kept same) e = rw acc (rw (kept, same) at e ∙ omega arith)
together_step x c cs l l' busy' w (Stepped.beginning acc beg own idle lasts short after) e =
    rw acc
    (together_begun (is_account l.running.account) x (sum l.totals) (busy_ticks cs) c.call.device.busy (ticks c) (cond (stops c) 0 (passed cs)) idle
    (rw (after, lt-ltb c.account 256 own, sum-at l.running.account (min c.call.device.busy (ticks c)) l.totals w.totals) at e))
together_step x c cs l l' busy' w (Stepped.going acc beg left after) e =
    rw acc
    (together_going (is_account l.running.account) x (sum l.totals) (busy_ticks cs) (min c.call.device.busy (ticks c)) (min busy' (passed cs))
    (min c.call.device.busy (ticks c + cond (stops c) 0 (passed cs))) (off_then (stops c) c.call.device.busy busy' (ticks c) (passed cs) left)
    (rw (after, still_nobodys l.running (min c.call.device.busy (ticks c)) busy' (passed cs), sum-at l.running.account (min c.call.device.busy (ticks c)) l.totals w.totals) at e))

-- nothing is left to pass after the last call
none_left : (somebody : Bool) (sums busy : ℕ) → sums + cond somebody 0 (min busy 0) ≡ sums + 0
none_left true sums busy = refl
none_left false sums busy = omega arith

pub together : (es : List Entry) (d : Device) (l : Ledger) → Whole l
    → sum (last_ledger es d l).totals + nobodys l d.busy (calls es d l) ≡ sum l.totals + busy_ticks (calls es d l)
unfolding passed busy_ticks
together =
    in_the_end (λ (l : Ledger) (busy : ℕ). Whole l) whole_step
    (λ (last l : Ledger) (busy : ℕ) (cs : List Done). sum last.totals + nobodys l busy cs
    ≡ sum l.totals + busy_ticks cs)
    (λ l busy r. none_left (is_account l.running.account) (sum l.totals) busy)
    (λ last c cs l l' busy' r after e. together_step (sum last.totals) c cs l l' busy' r after e)
