-- Time within a frame: where busy ends, and that the status bytes before and behind that place are those of each position's own record.
-- Assumes nothing.
use Prim.Native.Nat.{ℕ, ◌+◌, ◌-◌, ◌*◌, ◌/◌, ◌%◌, ◌<◌, ◌≤◌}
use mathlib.Core.Bool.{Bool, true, false}
use mathlib.Core.List.{List, [], ◌∷◌}
use mathlib.Core.Path.{◌≡◌, refl, ◌∙◌}
use native.Mathlib.Nat.{le-div_iff_mul-le, div-lt_iff_lt-mul}
use native.Mathlib.Omega.{arith}
use borrow.Author.Tests.{lt-ltb, le-ltb, ltb-true, ltb-false}
use lib.Dec.{ltb}
use lib.ListN.{get_or}
use Rattle.cells.specs.Each.{Cell, each}
use Rattle.cells.specs.Range.{copied}
use Rattle.cells.proofs.Runs.{begins, runs_on, ends}
use Rattle.device.specs.declared.Device.{Device}
use Rattle.device.specs.Device.{passed}
use Rattle.device.specs.Status.{status_one, status_two}
use Rattle.output.specs.Output.{store, byte_from}
use Rattle.output.specs.Steps.{shown}
use Rattle.output.specs.Time.{standing, BusyBefore}

-- ticks are left while fewer have passed, and then no more
still_busy : (busy ticks : ℕ) → ticks < busy → ltb 0 (busy - ticks) ≡ true
still_busy busy ticks l = lt-ltb 0 (busy - ticks) (omega arith)

over : (busy ticks : ℕ) → busy ≤ ticks → ltb 0 (busy - ticks) ≡ false
over busy ticks l = le-ltb 0 (busy - ticks) (omega arith)

-- where fewer ticks pass before each position up to the turn, and not fewer before the others
turns : (busy pace first end turn : ℕ) → ((k : ℕ) → first ≤ k → k < end → k < turn → k * pace < busy)
    → ((k : ℕ) → first ≤ k → k < end → turn ≤ k → busy ≤ k * pace) → BusyBefore busy pace first end turn
turns busy pace first end turn before behind k l h = by (ltb k turn) refl
  where
    by : (b : Bool) → ltb k turn ≡ b → ltb 0 (busy - k * pace) ≡ b
    by true e = still_busy busy (k * pace) (before k l h (ltb-true k turn e))
    by false e = over busy (k * pace) (behind k l h (ltb-false k turn e))

-- an idle part is idle at every position
pub idle_at_once : (busy pace first end : ℕ) → busy ≡ 0 → BusyBefore busy pace first end first
idle_at_once busy pace first end z = turns busy pace first end first (λ k l h m. absurd (omega arith)) (λ k l h m. omega arith)

-- and a busy one busy at every position, if these take no ticks
pub never_idle : (busy pace first end : ℕ) → 0 < busy → pace ≡ 0 → BusyBefore busy pace first end end
never_idle busy pace first end p z = turns busy pace first end end (λ k l h m. rw z (omega arith)) (λ k l h m. absurd (omega arith))

-- else the last busy position is the ticks but one, divided by the pace
pub idle_behind : (busy pace first end turn last : ℕ) → 0 < busy → 0 < pace → last ≡ (busy - 1) / pace
    → ((k : ℕ) → first ≤ k → k < end → (k < turn → k ≤ last) × (turn ≤ k → last < k)) → BusyBefore busy pace first end turn
idle_behind busy pace first end turn last p q e side =
    turns busy pace first end turn
    (λ k l h m. let n : k * pace ≤ busy - 1 = (le-div_iff_mul-le q).0 (rw (← e) ((side k l h).0 m)) in omega arith)
    (λ k l h m. let n : busy - 1 < k * pace = (div-lt_iff_lt-mul q).0 (rw (← e) ((side k l h).1 m)) in omega arith)

-- The status bytes of the busy part up to the turn, and then those of the idle one, are what each position shows.
pub shown_in_turn : (d idle : Device) (wp : Bool) (pace first turn end : ℕ) (xs : List ℕ) → idle ≡ passed d d.busy → first ≤ turn → turn ≤ end
    → BusyBefore d.busy pace first end turn
    → each (copied turn end (status_one idle wp ∷ status_two idle ∷ []) ((turn - first) % 2)) (each (copied first turn (status_one d wp ∷ status_two d ∷ []) 0) xs)
    ≡ each (shown (standing d pace) wp first end) xs
shown_in_turn d idle wp pace first turn end xs i p q h =
    let busy = runs_on (begins f first end xs (omega arith)) (λ k x. get_or (bytes d) ((0 + (k - first)) % 2) 0) turn _ p q refl before in
    ends (runs_on busy (λ k x. get_or (bytes idle) (((turn - first) % 2 + (k - turn)) % 2) 0) end _ q (omega arith) refl behind) (omega arith)
  where
    bytes : Device → List ℕ
    bytes e = status_one e wp ∷ status_two e ∷ []

    f : Cell
    f k x = byte_from (store (bytes (standing d pace k))) 0 (k - first)

    before : (k x : ℕ) → first ≤ k → k < turn → get_or (bytes d) ((0 + (k - first)) % 2) 0 ≡ f k x
    before k x l m =
        let e : ltb 0 (d.busy - k * pace) ≡ true = h k l (omega arith) ∙ lt-ltb k turn m in
        let left : 0 < d.busy - k * pace = ltb-true 0 (d.busy - k * pace) e in
        let now : ltb 0 d.busy ≡ true = lt-ltb 0 d.busy (omega arith) in
        rw (e, now)

    behind : (k x : ℕ) → turn ≤ k → k < end → get_or (bytes idle) (((turn - first) % 2 + (k - turn)) % 2) 0 ≡ f k x
    behind k x l m =
        let e : ltb 0 (d.busy - k * pace) ≡ false = h k (omega arith) m ∙ le-ltb k turn l in
        let then : ltb 0 (d.busy - d.busy) ≡ false = le-ltb 0 (d.busy - d.busy) (omega arith) in
        let place : ((turn - first) % 2 + (k - turn)) % 2 ≡ (0 + (k - first)) % 2 = omega arith in
        rw (i, e, then, place)
