-- The busy ticks that a call leaves are those that its outcome tells. Assumes nothing.
use Prim.Native.Nat.{ℕ, ◌-◌, ◌*◌, ◌≤◌}
use mathlib.Core.Bool.{Bool, true, false, true≢false, false≢true, cond, ◌&&◌, and-false}
use mathlib.Core.Path.{◌≡◌, refl, sym, ap, subst, ◌∙◌}
use native.Mathlib.Nat.{sub-add-eq}
use native.Mathlib.Omega.{arith}
use borrow.Author.Tests.{ltb-false}
use lib.Dec.{T, ltb, eqb}
use lib.Text.{eqt, eqt→eq}
use Rattle.opcodes.specs.declared.Command.{Command}
use Rattle.opcodes.specs.declared.Command.TheVariants.{Orders, Works}
use Rattle.opcodes.specs.declared.Order.{Order}
use Rattle.opcodes.specs.declared.Order.TheVariants.{Enable, Disable, DeepPowerDown, UltraDeepPowerDown, Resume, Reset}
use Rattle.opcodes.specs.declared.Work.{Work}
use Rattle.opcodes.specs.Rows.{row_of}
use Rattle.opcodes.specs.Kinds.{is_reset}
use Rattle.opcodes.proofs.Kept.{work_needs}
use Rattle.device.specs.declared.Device.{Device}
use Rattle.device.specs.declared.Mode.{Mode}
use Rattle.device.specs.declared.Mode.TheVariants.{Awake, Deep, UltraDeep}
use Rattle.settings.specs.declared.Settings.{Settings}
use Rattle.judge.specs.declared.Facts.{Facts}
use Rattle.judge.specs.declared.Judged.{Judged}
use Rattle.judge.specs.declared.Outcome.{Outcome}
use Rattle.device.specs.Device.{awake, deep, ultra_deep}
use Rattle.judge.specs.Judging.{ordered, carried, judged}
use Rattle.judge.proofs.Leaves.{Heard, each_answer, full_duration, found_idle}
use Rattle.calls.specs.declared.Lengths.{Lengths}
use Rattle.calls.specs.Refusal.{bytes_for}
use Rattle.part.specs.Words.{word_of}
use Rattle.part.specs.Frame.{Call, number_for, risen, facts_of, judged_of, covered_by, answered, refused, replied}
use Rattle.part.specs.Busy.{resets, busy_after}
use Rattle.part.proofs.Answers.{begun_tells, refusal_is}

-- an operation is begun by a part that was idle at the first bit; whatever else is answered leaves the ticks at the rise, but a reset none
abbrev Kept : Device → Facts → Judged → Type 0
Kept d f j =
    (eqt (word_of j.outcome) "begun" ≡ true → f.busy ≡ false)
    × (eqt (word_of j.outcome) "begun" ≡ false
    → j.device.busy ≡ cond (awake d.mode && (is_reset (row_of f.code).command && eqt (word_of j.outcome) "control")) 0 d.busy)

module _ (d : Device) (s : Settings) (f : Facts) where
  abbrev command : Command
  command = (row_of f.code).command

  none : {A : Type 0} → false ≡ true → A
  none c = absurd (false≢true c)

  -- an outcome that is not control is no reset
  uncontrolled : d.busy ≡ cond (awake d.mode && (is_reset command && false)) 0 d.busy
  uncontrolled = rw (and-false (is_reset command), and-false (awake d.mode))

  -- nor is one of a part that sleeps
  asleep : awake d.mode ≡ false → d.busy ≡ cond (awake d.mode && (is_reset command && true)) 0 d.busy
  asleep e = rw e

  -- nor is another command
  other : is_reset command ≡ false → d.busy ≡ cond (awake d.mode && (is_reset command && true)) 0 d.busy
  other e = rw (e, and-false (awake d.mode))

  deep_sleeps : (m : Mode) → deep m ≡ true → awake m ≡ false
  deep_sleeps Awake e = none e
  deep_sleeps Deep e = refl
  deep_sleeps UltraDeep e = refl

  ultra_sleeps : (m : Mode) → ultra_deep m ≡ true → awake m ≡ false
  ultra_sleeps Awake e = none e
  ultra_sleeps Deep e = refl
  ultra_sleeps UltraDeep e = refl

  of_order : (order : Order) → command ≡ Orders order → Heard d f → Kept d f (ordered order d)
  of_order Enable e h = (none, λ n. other (ap is_reset e))
  of_order Disable e h = (none, λ n. other (ap is_reset e))
  of_order DeepPowerDown e h = (none, λ n. other (ap is_reset e))
  of_order UltraDeepPowerDown e h = (none, λ n. other (ap is_reset e))
  of_order Resume e h = (none, λ n. other (ap is_reset e))
  of_order Reset e h = (none, λ n. rw (h.up, e))

  idle_work : (work : Work) → command ≡ Works work → Heard d f → f.busy ≡ false
  idle_work work e h = found_idle d f (work_needs f.code work e).2 h

  of_work : (work : Work) → command ≡ Works work → Heard d f → Kept d f (carried work d s f)
  of_work Work.Program e h = (λ c. idle_work Work.Program e h, λ n. absurd (true≢false n))
  of_work (Work.Erase region) e h = (λ c. idle_work (Work.Erase region) e h, λ n. absurd (true≢false n))
  of_work Work.Otp e h = (λ c. idle_work Work.Otp e h, λ n. absurd (true≢false n))
  of_work Work.WriteStatus e h = (λ c. idle_work Work.WriteStatus e h, λ n. absurd (true≢false n))
  of_work Work.WriteStatusTwo e h = (none, λ n. other (ap is_reset e))

  kept : Kept d f (judged d s f)
  kept =
      each_answer d s f (Kept d f) (λ cause first. (none, λ n. uncontrolled))
      (λ cause first. (none, λ n. uncontrolled))
      (λ u. (none, λ n. asleep (ultra_sleeps d.mode u))) (λ e. (none, λ n. asleep (deep_sleeps d.mode e)))
      (λ source e. (none, λ n. uncontrolled)) of_order of_work

is_begun_lem : (o : Outcome) → eqt (word_of o) "begun" ≡ true → o ≡ Outcome.Begun
is_begun_lem o e = begun_tells o (eqt→eq (word_of o) "begun" (subst T (sym e) tt))

module _ (c : Call) (lengths : Lengths) where
  -- a frame begins an operation only if no busy tick was left at its first bit
  pub begun_idle : (replied c lengths).outcome ≡ "begun" → c.device.busy ≤ c.signals.elapsed
  unfolding replied judged_of
  begun_idle e = by (eqb (number_for c lengths) 0) e
    where
      by : (b : Bool) → (cond b (answered (judged_of c) (covered_by (judged_of c) c lengths)) (refused (number_for c lengths) c.device)).outcome ≡ "begun" → c.device.busy ≤ c.signals.elapsed
      by true e =
          let still : ltb 0 (c.device.busy - c.signals.elapsed) ≡ false = (kept (risen c) c.settings (facts_of c)).0 (ap (λ w. eqt w "begun") e) in
          let left = ltb-false 0 (c.device.busy - c.signals.elapsed) still in
          omega arith
      by false e = absurd (true≢false (ap (λ w. eqt w "nothing") e))

  -- what an accepted call leaves
  pub busy_is : (replied c lengths).refusal ≡ 0 → (replied c lengths).device.busy ≡ busy_after c (replied c lengths)
  unfolding replied judged_of
  busy_is e = rw (sym (refusal_is c lengths) ∙ e) (by (eqt (word_of (judged_of c).outcome) "begun") refl)
    where
      by : (b : Bool) → eqt (word_of (judged_of c).outcome) "begun" ≡ b → (judged_of c).device.busy ≡ busy_after c (answered (judged_of c) (covered_by (judged_of c) c lengths))
      by true w = rw w (full_duration (risen c) c.settings (facts_of c) (is_begun_lem (judged_of c).outcome w))
      by false w =
          rw w
          ((kept (risen c) c.settings (facts_of c)).1 w ∙
          ap (λ (left : ℕ). cond (resets c (answered (judged_of c) (covered_by (judged_of c) c lengths))) 0 left) (sym (sub-add-eq c.device.busy c.signals.elapsed (bytes_for c.signals.bits * c.signals.pace))))
