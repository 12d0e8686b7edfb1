-- What holds of each answer that judging can give holds of judging: one law, and its uses. Assumes nothing.
use Prim.Native.Nat.{◌+◌, ◌≤◌}
use mathlib.Core.Bool.{Bool, true, false, true≢false, false≢true, cond, not, ◌&&◌, ◌||◌, and-true, and-false}
use mathlib.Core.Bool.{and-eq-true_iff}
use mathlib.Core.Path.{◌≡◌, refl, sym, ap, ◌∙◌}
use native.Mathlib.Decide.{ℕ_discrete}
use native.Mathlib.Omega.{arith}
use borrow.Author.Tests.{ltb-false, eq-eqb, ne_eqb}
use lib.Dec.{ltb, eqb}
use Rattle.std.specs.Prelude.{Option, Some, None, is_none}
use Rattle.std.proofs.lemmas.Bool.{cond_both}
use Rattle.opcodes.specs.declared.Command.{Command}
use Rattle.opcodes.specs.declared.Command.TheVariants.{Unlisted, Reads, Orders, Works}
use Rattle.opcodes.specs.declared.Order.{Order}
use Rattle.opcodes.specs.declared.Order.TheVariants.{Enable, Disable, DeepPowerDown, UltraDeepPowerDown, Resume, Reset}
use Rattle.opcodes.specs.declared.Source.{Source}
use Rattle.opcodes.specs.declared.Work.{Work}
use Rattle.opcodes.specs.Rows.{row_of}
use Rattle.opcodes.specs.Kinds.{is_unlisted, means_array, works_on_array}
use Rattle.opcodes.specs.Rule.{ordered_while_busy}
use Rattle.opcodes.proofs.Kept.{order_needs}
use Rattle.device.specs.declared.Device.{Device}
use Rattle.device.specs.declared.Mode.{Mode}
use Rattle.device.specs.declared.Mode.TheVariants.{Awake, Deep, UltraDeep}
use Rattle.settings.specs.declared.Kind.{Kind}
use Rattle.settings.specs.declared.Settings.{Settings}
use Rattle.settings.specs.Settings.{longest, place_of, duration_of, any_unfair}
use Rattle.settings.proofs.Durations.{none_longer}
use Rattle.judge.specs.declared.Facts.{Facts}
use Rattle.judge.specs.declared.Judged.{Judged}
use Rattle.judge.specs.declared.Cause.{Cause}
use Rattle.judge.specs.declared.Outcome.{Outcome}
use Rattle.judge.specs.declared.Action.{Action}
use Rattle.judge.specs.Begins.{changes_array, asks_for, lasts}
use Rattle.device.specs.Device.{awake, deep, ultra_deep, is_busy, unsound, latched, dropped, moved, woken, reset}
use Rattle.judge.specs.Causes.{cause_of, drops}
use Rattle.judge.specs.Judging.{quiet, nothing, control, aborted, driven, read, erase_kind, program_kind, ordered}
use Rattle.judge.specs.Judging.{carried, obeyed, ended, wakes, judged}
use Rattle.judge.proofs.Causes.{unhindered, up}
use Rattle.device.proofs.Records.{sound_then, then_sound}

-- A frame is heard: the part is awake, and was idle at the first bit unless a busy part answers the row.
pub record Heard (d : Device) (f : Facts) : Type 0 where
  pub up : awake d.mode ≡ true
  pub answers : (f.busy && not (row_of f.code).busy) ≡ false

-- An answer is nothing or an abort for the first cause that holds, a waking from either sleep, or what the command of a
-- heard frame gives.
module _ (d : Device) (s : Settings) (f : Facts) (P : Judged → Type 0)
    (still : (cause : Cause) → cause_of (row_of f.code) d f ≡ Some cause → P (nothing cause d))
    (aborting : (cause : Cause) → cause_of (row_of f.code) d f ≡ Some cause → P (aborted cause d))
    (waking : ultra_deep d.mode ≡ true → P (control (woken d)))
    (rousing : deep d.mode ≡ true → P (ordered Resume d))
    (reading : (source : Source) → (row_of f.code).command ≡ Reads source → P (read (row_of f.code) source d f))
    (ordering : (order : Order) → (row_of f.code).command ≡ Orders order → Heard d f → P (ordered order d))
    (carrying : (work : Work) → (row_of f.code).command ≡ Works work → Heard d f → P (carried work d s f)) where
  heard : is_none (cause_of (row_of f.code) d f) ≡ true → Heard d f
  heard n = record { up = up (row_of f.code) d f n; answers = (unhindered (row_of f.code) d f n).1.1.0 }

  of_command : (command : Command) → (row_of f.code).command ≡ command → is_none (cause_of (row_of f.code) d f) ≡ true
      → P (obeyed command (row_of f.code) d s f)
  of_command Unlisted e n = absurd (true≢false (sym (ap is_unlisted e) ∙ (unhindered (row_of f.code) d f n).1.1.1.0))
  of_command (Reads source) e n = reading source e
  of_command (Orders order) e n = ordering order e (heard n)
  of_command (Works work) e n = carrying work e (heard n)

  of_cause : P (ended (cause_of (row_of f.code) d f) (row_of f.code) d s f)
  unfolding ended
  of_cause = by (cause_of (row_of f.code) d f) refl
    where
      by : (first : Option Cause) → cause_of (row_of f.code) d f ≡ first → P (ended first (row_of f.code) d s f)
      by None e = of_command (row_of f.code).command refl (ap is_none e)
      by (Some cause) e =
          cond_both (drops cause (row_of f.code)) (aborted cause d) (nothing cause d) P (λ t. aborting cause e)
          (λ t. still cause e)

  pub each_answer : P (judged d s f)
  unfolding judged
  each_answer =
      let r = row_of f.code in
      let listed = ended (cause_of r d f) r d s f in
      cond_both (ultra_deep d.mode) (control (woken d)) (cond (wakes r d f) (ordered Resume d) listed) P waking
      (λ u.
      cond_both (wakes r d f) (ordered Resume d) listed P (λ w. rousing ((and-eq-true_iff (deep d.mode) _).0 w).0)
      (λ w. of_cause))

-- The same for what does not care how a quiet answer came about: an answer is quiet, a read, or a command carried out.
module _ (d : Device) (s : Settings) (f : Facts) (P : Judged → Type 0)
    (quietly : (outcome : Outcome) (e : Device) → P (quiet outcome e))
    (reading : (source : Source) → (row_of f.code).command ≡ Reads source → P (read (row_of f.code) source d f))
    (carrying : (work : Work) → (row_of f.code).command ≡ Works work → P (carried work d s f)) where
  of_order : (order : Order) → P (ordered order d)
  of_order Enable = quietly Outcome.Control (latched d)
  of_order Disable = quietly Outcome.Control (dropped d)
  of_order DeepPowerDown = quietly Outcome.Control (moved d Deep)
  of_order UltraDeepPowerDown = quietly Outcome.Control (moved d UltraDeep)
  of_order Resume = quietly Outcome.Control (moved d Awake)
  of_order Reset = quietly Outcome.Control (reset d)

  pub each_kind : P (judged d s f)
  each_kind =
      each_answer d s f P (λ cause n. quietly (Outcome.Nothing cause) d)
      (λ cause n. quietly (Outcome.Aborted cause) (dropped d))
      (λ u. quietly Outcome.Control (woken d)) (λ e. quietly Outcome.Control (moved d Awake)) reading
      (λ order e h. of_order order) (λ work e h. carrying work e)

-- no position behind the frame's last one is driven
pub within : (d : Device) (s : Settings) (f : Facts) → (judged d s f).first + (judged d s f).driven ≤ f.bytes
within d s f = each_kind d s f (λ (j : Judged). j.first + j.driven ≤ f.bytes) (λ o e. omega arith) of_read (λ work e. of_work work)
  where
    of_read : (source : Source) → (row_of f.code).command ≡ Reads source
        → (read (row_of f.code) source d f).first + (read (row_of f.code) source d f).driven ≤ f.bytes
    of_read source e = by (ℕ_discrete (driven (row_of f.code) f) 0)
      where
        by : Dec (driven (row_of f.code) f ≡ 0) → cond (eqb (driven (row_of f.code) f) 0) 0 (row_of f.code).first + driven (row_of f.code) f ≤ f.bytes
        by (yes z) = rw (eq-eqb (driven (row_of f.code) f) 0 z) (omega arith)
        by (no z) = rw (ne_eqb (driven (row_of f.code) f) 0 z) (omega arith)

    of_work : (work : Work) → (carried work d s f).first + (carried work d s f).driven ≤ f.bytes
    of_work Work.Program = omega arith
    of_work (Work.Erase region) = omega arith
    of_work Work.Otp = omega arith
    of_work Work.WriteStatus = omega arith
    of_work Work.WriteStatusTwo = omega arith

-- what works on the array is what the opcode asks for, and its outcome is begun
abbrev Faithful : Facts → Judged → Type 0
Faithful f j = changes_array j.action ≡ true → (j.action ≡ asks_for (row_of f.code).command) × (j.outcome ≡ Outcome.Begun)

pub as_asked : (d : Device) (s : Settings) (f : Facts) → Faithful f (judged d s f)
as_asked d s f = each_kind d s f (Faithful f) (λ o e c. absurd (false≢true c)) (λ source e c. absurd (false≢true c)) of_work
  where
    of_work : (work : Work) → (row_of f.code).command ≡ Works work → Faithful f (carried work d s f)
    of_work Work.Program e c = (sym (ap asks_for e), refl)
    of_work (Work.Erase region) e c = (sym (ap asks_for e), refl)
    of_work Work.Otp e c = absurd (false≢true c)
    of_work Work.WriteStatus e c = absurd (false≢true c)
    of_work Work.WriteStatusTwo e c = absurd (false≢true c)

-- what is begun
abbrev is_begun : Outcome → Bool
is_begun (Outcome.Nothing _) = false
is_begun Outcome.Read = false
is_begun Outcome.Control = false
is_begun (Outcome.Aborted _) = false
is_begun Outcome.Begun = true

-- was a command that needs WEL: of such a one what holds of each of these commands holds
abbrev IfBegun : (Judged → Type 0) → Judged → Type 0
IfBegun P j = is_begun j.outcome ≡ true → P j

begun_by_work : (d : Device) (s : Settings) (f : Facts) (P : Judged → Type 0)
    → ((work : Work) → (row_of f.code).command ≡ Works work → is_begun (carried work d s f).outcome ≡ true
    → P (carried work d s f))
    → is_begun (judged d s f).outcome ≡ true → P (judged d s f)
begun_by_work d s f P of_work =
    each_answer d s f (IfBegun P) (λ cause n. none) (λ cause n. none) (λ m. none) (λ m. none) (λ source e. none)
    (λ order e h. of_order order) (λ work e h. of_work work e)
  where
    none : {A : Type 0} → false ≡ true → A
    none c = absurd (false≢true c)

    of_order : (order : Order) → IfBegun P (ordered order d)
    of_order Enable = none
    of_order Disable = none
    of_order DeepPowerDown = none
    of_order UltraDeepPowerDown = none
    of_order Resume = none
    of_order Reset = none

-- It takes effect, if the opcode is a program or an erase of the array,
pub begun_acts : (d : Device) (s : Settings) (f : Facts) → (judged d s f).outcome ≡ Outcome.Begun
    → means_array (row_of f.code).command ≡ true
    → changes_array (judged d s f).action ≡ true
begun_acts d s f e m = begun_by_work d s f (λ (j : Judged). changes_array j.action ≡ true) of_work (ap is_begun e)
  where
    no_array : (work : Work) → (row_of f.code).command ≡ Works work → works_on_array work ≡ false → {A : Type 0} → A
    no_array work c n = absurd (false≢true (sym n ∙ (sym (ap means_array c) ∙ m)))

    of_work : (work : Work) → (row_of f.code).command ≡ Works work → is_begun (carried work d s f).outcome ≡ true
        → changes_array (carried work d s f).action ≡ true
    of_work Work.Program c b = refl
    of_work (Work.Erase region) c b = refl
    of_work Work.Otp c b = no_array Work.Otp c refl
    of_work Work.WriteStatus c b = no_array Work.WriteStatus c refl
    of_work Work.WriteStatusTwo c b = no_array Work.WriteStatusTwo c refl

-- and it takes its full duration, however many ticks the frame itself took.
pub full_duration : (d : Device) (s : Settings) (f : Facts) → (judged d s f).outcome ≡ Outcome.Begun
    → (judged d s f).device.busy ≡ lasts (row_of f.code).command s f
full_duration d s f e =
    begun_by_work d s f (λ (j : Judged). j.device.busy ≡ lasts (row_of f.code).command s f) of_work (ap is_begun e)
  where
    of_work : (work : Work) → (row_of f.code).command ≡ Works work → is_begun (carried work d s f).outcome ≡ true
        → (carried work d s f).device.busy ≡ lasts (row_of f.code).command s f
    of_work Work.Program c b = rw c
    of_work (Work.Erase region) c b = rw c
    of_work Work.Otp c b = rw c
    of_work Work.WriteStatus c b = rw c
    of_work Work.WriteStatusTwo c b = absurd (false≢true b)

-- a reset touches no memory, carried out or not
pub reset_still : (d : Device) (s : Settings) (f : Facts) → (row_of f.code).command ≡ Orders Reset → (judged d s f).action ≡ Action.Still
reset_still d s f r =
    each_kind d s f (λ (j : Judged). j.action ≡ Action.Still) (λ o e. refl) (λ source e. absurd (true≢false (ap is_order (sym r ∙ e))))
    (λ work e. absurd (true≢false (ap is_order (sym r ∙ e))))
  where
    is_order : Command → Bool
    is_order Unlisted = false
    is_order (Reads source) = false
    is_order (Orders order) = true
    is_order (Works work) = false

-- a command that a busy part does not answer finds the part idle
pub found_idle : (d : Device) (f : Facts) → (row_of f.code).busy ≡ false → Heard d f → f.busy ≡ false
found_idle d f b h = sym (and-true f.busy) ∙ rw b at h.answers

-- a record that is accepted gives one that is accepted, if the settings are, and if a part that was idle at the first bit is at the rise
pub stays_sound : (d : Device) (s : Settings) (f : Facts) → unsound d ≡ false → any_unfair s.ticks ≡ false → (f.busy ≡ false → is_busy d ≡ false)
    → unsound (judged d s f).device ≡ false
stays_sound d s f u fair still =
    each_answer d s f (λ (j : Judged). unsound j.device ≡ false) (λ cause n. u) (λ cause n. u) (λ m. awoken) (λ m. awoken)
    (λ source e. u) of_order (λ work e h. of_work work h.up)
  where
    awoken : unsound (moved d Awake) ≡ false
    awoken = then_sound (moved d Awake) (record { short = (sound_then d u).short; idle = λ n. absurd (true≢false n) })

    asleep : (mode : Mode) (order : Order) → (row_of f.code).command ≡ Orders order → ordered_while_busy order ≡ false → Heard d f
        → unsound (moved d mode) ≡ false
    asleep mode order e o h =
        let none : d.busy ≤ 0 =
        ltb-false 0 d.busy (still (found_idle d f ((order_needs f.code order e).2 ∙ o) h)) in
        then_sound (moved d mode) (record { short = (sound_then d u).short; idle = λ n. omega arith })

    of_order : (order : Order) → (row_of f.code).command ≡ Orders order → Heard d f
        → unsound (ordered order d).device ≡ false
    of_order Enable e h = u
    of_order Disable e h = u
    of_order DeepPowerDown e h = asleep Deep DeepPowerDown e refl h
    of_order UltraDeepPowerDown e h = asleep UltraDeep UltraDeepPowerDown e refl h
    of_order Resume e h = awoken
    of_order Reset e h = refl

    begins : (kind : Kind) → awake d.mode ≡ true → (ltb longest (duration_of s kind) || (ltb 0 (duration_of s kind) && not (awake d.mode))) ≡ false
    begins kind w = rw (none_longer s.ticks (place_of kind) fair, w) (and-false (ltb 0 (duration_of s kind)))

    of_work : (work : Work) → awake d.mode ≡ true → unsound (carried work d s f).device ≡ false
    of_work Work.Program w = begins (program_kind f) w
    of_work (Work.Erase region) w = begins (erase_kind region) w
    of_work Work.Otp w = begins Kind.OtpProgram w
    of_work Work.WriteStatus w = begins Kind.StatusWrite w
    of_work Work.WriteStatusTwo w = u
