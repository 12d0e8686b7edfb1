-- A frame begins an operation on the array exactly when its opcode is a program or an erase and no cause keeps it from
-- it, which is exactly when all of `ready` holds. Assumes nothing.
use mathlib.Core.Bool.{Bool, true, false, true≢false, cond, not, ◌&&◌, and-true, and-false}
use mathlib.Core.Path.{◌≡◌, refl, sym, ap, ◌∙◌}
use lib.Dec.{ltb}
use Rattle.std.specs.Prelude.{Option, Some, None, is_none}
use Rattle.opcodes.specs.declared.Row.{Row}
use Rattle.opcodes.specs.declared.Command.{Command}
use Rattle.opcodes.specs.declared.Command.TheVariants.{Unlisted, Reads, Orders, Works}
use Rattle.opcodes.specs.declared.Order.{Order}
use Rattle.opcodes.specs.declared.Order.TheVariants.{Enable, Disable, DeepPowerDown, UltraDeepPowerDown, Resume, Reset}
use Rattle.opcodes.specs.declared.Work.{Work}
use Rattle.opcodes.specs.Rows.{row_of}
use Rattle.opcodes.specs.Kinds.{means_array, works_on_array}
use Rattle.opcodes.proofs.Kept.{work_needs}
use Rattle.device.specs.declared.Device.{Device}
use Rattle.device.specs.declared.Mode.{Mode}
use Rattle.device.specs.declared.Mode.TheVariants.{Awake, Deep, UltraDeep}
use Rattle.device.specs.Device.{awake, deep, ultra_deep, woken}
use Rattle.settings.specs.declared.Settings.{Settings}
use Rattle.judge.specs.declared.Facts.{Facts}
use Rattle.judge.specs.declared.Judged.{Judged}
use Rattle.judge.specs.declared.Cause.{Cause}
use Rattle.judge.specs.declared.Cause.TheVariants.{TooFewBits, Asleep, Busy, LatchClear, OffBoundary}
use Rattle.judge.specs.declared.Cause.TheVariants.{Incomplete, Protected}
use Rattle.judge.specs.Begins.{changes_array, ready}
use Rattle.judge.specs.Causes.{on_boundary, cause_of, drops}
use Rattle.judge.specs.Judging.{nothing, control, aborted, ordered, carried, obeyed, ended, wakes, judged}
use Rattle.judge.proofs.Causes.{up}

abbrev changes : Judged → Bool
changes j = changes_array j.action

order_quiet : (order : Order) (d : Device) → changes (ordered order d) ≡ false
order_quiet Enable d = refl
order_quiet Disable d = refl
order_quiet DeepPowerDown d = refl
order_quiet UltraDeepPowerDown d = refl
order_quiet Resume d = refl
order_quiet Reset d = refl

work_when : (work : Work) (d : Device) (s : Settings) (f : Facts) → changes (carried work d s f) ≡ works_on_array work
work_when Work.Program d s f = refl
work_when (Work.Erase region) d s f = refl
work_when Work.Otp d s f = refl
work_when Work.WriteStatus d s f = refl
work_when Work.WriteStatusTwo d s f = refl

module _ (d : Device) (s : Settings) (f : Facts) where
  abbrev row : Row
  row = row_of f.code

  obeyed_when : (command : Command) → changes (obeyed command row d s f) ≡ means_array command
  obeyed_when Unlisted = refl
  obeyed_when (Reads source) = refl
  obeyed_when (Orders order) = order_quiet order d
  obeyed_when (Works work) = work_when work d s f

  -- by the cause
  ended_when : (first : Option Cause) → changes (ended first row d s f) ≡ (is_none first && means_array row.command)
  unfolding ended
  ended_when None = obeyed_when row.command
  ended_when (Some cause) = by (drops cause row)
    where
      by : (b : Bool) → changes (cond b (aborted cause d) (nothing cause d)) ≡ false
      by true = refl
      by false = refl

  -- a part that sleeps has a cause
  sleeps : awake d.mode ≡ false → is_none (cause_of row d f) ≡ false
  sleeps e = by (is_none (cause_of row d f)) refl
    where
      by : (b : Bool) → is_none (cause_of row d f) ≡ b → b ≡ false
      by true n = absurd (true≢false (sym (up row d f n) ∙ e))
      by false n = refl

  -- No cause, and a program or an erase of the array.
  pub no_cause_when : changes (judged d s f) ≡ (is_none (cause_of row d f) && means_array row.command)
  unfolding judged
  no_cause_when = by d.mode refl
    where
      asleep : awake d.mode ≡ false → false ≡ (is_none (cause_of row d f) && means_array row.command)
      asleep e = rw (sleeps e)

      roused : (b : Bool) → awake d.mode ≡ false
          → changes (cond b (ordered Resume d) (ended (cause_of row d f) row d s f))
          ≡ (is_none (cause_of row d f) && means_array row.command)
      roused true e = asleep e
      roused false e = ended_when (cause_of row d f)

      by : (m : Mode) → d.mode ≡ m
          → changes
          (cond (ultra_deep d.mode) (control (woken d))
          (cond (wakes row d f) (ordered Resume d) (ended (cause_of row d f) row d s f)))
          ≡ (is_none (cause_of row d f) && means_array row.command)
      by Awake e = rw (ap ultra_deep e, ap deep e) (ended_when (cause_of row d f))
      by Deep e = rw (ap ultra_deep e) (roused (wakes row d f) (ap awake e))
      by UltraDeep e = rw (ap ultra_deep e) (asleep (ap awake e))

  -- what may keep a program or an erase of the array from being carried out, in the list's order
  listed : (few up busy wel even short shut : Bool)
      → is_none
      (cond few (Some TooFewBits)
      (cond (not up) (Some Asleep)
      (cond (busy && true) (Some Busy)
      (cond (not wel) (Some LatchClear)
      (cond (not even) (Some OffBoundary)
      (cond short (Some Incomplete)
      (cond shut (Some Protected) None)))))))
      ≡ (not few && (up && (not busy && (wel && (even && (not short && not shut))))))
  listed true up busy wel even short shut = refl
  listed false false busy wel even short shut = refl
  listed false true true wel even short shut = refl
  listed false true false false even short shut = refl
  listed false true false true false short shut = refl
  listed false true false true true true shut = refl
  listed false true false true true false true = refl
  listed false true false true true false false = refl

  abbrev as_ready : Bool
  as_ready =
      not (ltb f.bits 8) &&
      (awake d.mode &&
      (not f.busy && (d.wel && (on_boundary f && (not (ltb f.bytes row.bytes) && not d.bp0)))))

  work_ready : (work : Work) → row.command ≡ Works work → works_on_array work ≡ true → is_none (cause_of row d f) ≡ as_ready
  unfolding cause_of
  work_ready work e w = by work w e (work_needs f.code work e)
    where
      all : is_none
          (cond (ltb f.bits 8) (Some TooFewBits)
          (cond (not (awake d.mode)) (Some Asleep)
          (cond (f.busy && true) (Some Busy)
          (cond (not d.wel) (Some LatchClear)
          (cond (not (on_boundary f)) (Some OffBoundary)
          (cond (ltb f.bytes row.bytes) (Some Incomplete)
          (cond d.bp0 (Some Protected) None)))))))
          ≡ as_ready
      all =
          listed (ltb f.bits 8) (awake d.mode) f.busy d.wel (on_boundary f) (ltb f.bytes row.bytes)
          d.bp0

      by : (work : Work) → works_on_array work ≡ true → row.command ≡ Works work
          → (row.boundary ≡ true) × (row.latch ≡ true) × (row.busy ≡ false) × (row.asleep ≡ false)
          → is_none (cause_of row d f) ≡ as_ready
      by Work.Program w e n = rw (e, n.0, n.1, n.2, n.3) all
      by (Work.Erase region) w e n = rw (e, n.0, n.1, n.2, n.3) all
      by Work.Otp w e n = absurd (true≢false (sym w))
      by Work.WriteStatus w e n = absurd (true≢false (sym w))
      by Work.WriteStatusTwo w e n = absurd (true≢false (sym w))

  -- that is when all of this holds
  pub no_cause_ready : (is_none (cause_of row d f) && means_array row.command) ≡ ready d f
  no_cause_ready = by row.command refl
    where
      never : (a b c : Bool) → false ≡ (a && (b && (c && false)))
      never a b c = rw (and-false c, and-false b, and-false a)

      other : (command : Command) → row.command ≡ command → means_array command ≡ false
          → (is_none (cause_of row d f) && means_array row.command) ≡ ready d f
      other command e m =
          rw (ap means_array e ∙ m)
          (and-false (is_none (cause_of row d f)) ∙ never (not (ltb f.bits 8)) (awake d.mode) (not f.busy))

      of_work : (work : Work) (b : Bool) → row.command ≡ Works work → works_on_array work ≡ b
          → (is_none (cause_of row d f) && means_array row.command) ≡ ready d f
      of_work work true e w = rw (ap means_array e ∙ w) (and-true (is_none (cause_of row d f)) ∙ work_ready work e w)
      of_work work false e w = other (Works work) e w

      by : (command : Command) → row.command ≡ command
          → (is_none (cause_of row d f) && means_array row.command) ≡ ready d f
      by Unlisted e = other Unlisted e refl
      by (Reads source) e = other (Reads source) e refl
      by (Orders order) e = other (Orders order) e refl
      by (Works work) e = of_work work (works_on_array work) e refl

  -- A frame begins an operation on the array exactly when all of this holds.
  pub exactly_when : changes_array (judged d s f).action ≡ ready d f
  exactly_when = no_cause_when ∙ no_cause_ready
