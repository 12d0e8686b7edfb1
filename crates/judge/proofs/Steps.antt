-- The steps that the code goes are judging by the list. Assumes nothing.
use mathlib.Core.Bool.{Bool, true, false, cond, not, ◌&&◌}
use mathlib.Core.Path.{◌≡◌, refl, ap}
use lib.Dec.{ltb}
use Rattle.std.specs.Prelude.{Some, None}
use Rattle.std.specs.Bool.{then_some}
use Rattle.std.specs.Option.{option_map_or}
use Rattle.opcodes.specs.declared.Row.{Row}
use Rattle.opcodes.specs.declared.Command.{Command}
use Rattle.opcodes.specs.declared.Command.TheVariants.{Unlisted, Reads, Orders, Works}
use Rattle.opcodes.specs.declared.Order.{Order}
use Rattle.opcodes.specs.declared.Order.TheVariants.{Enable, Disable, DeepPowerDown, UltraDeepPowerDown, Resume, Reset}
use Rattle.opcodes.specs.declared.Source.{Source}
use Rattle.opcodes.specs.declared.Work.{Work}
use Rattle.opcodes.specs.Rows.{row_of}
use Rattle.opcodes.specs.Kinds.{resuming}
use Rattle.opcodes.specs.Rule.{ordered_on_boundary, ordered_while_busy, ordered_bytes}
use Rattle.opcodes.proofs.Kept.{asleep_is, read_needs, order_needs, work_needs}
use Rattle.device.specs.declared.Device.{Device}
use Rattle.device.specs.declared.Mode.{Mode}
use Rattle.device.specs.declared.Mode.TheVariants.{Awake, Deep, UltraDeep}
use Rattle.device.specs.Device.{awake, deep, ultra_deep, woken}
use Rattle.settings.specs.declared.Settings.{Settings}
use Rattle.judge.specs.declared.Facts.{Facts}
use Rattle.judge.specs.declared.Judged.{Judged}
use Rattle.judge.specs.declared.Cause.{Cause}
use Rattle.judge.specs.declared.Cause.TheVariants.{TooFewBits, Asleep, Busy, LatchClear, ResetUnconfirmed}
use Rattle.judge.specs.declared.Cause.TheVariants.{OffBoundary, Incomplete, Locked}
use Rattle.judge.specs.Causes.{on_boundary, confirmed, cause_of, drops}
use Rattle.judge.specs.Judging.{nothing, aborted, control, ordered, obeyed, ended, wakes, judged}
use Rattle.judge.specs.Steps.{by_opcode, stepped}

module _ (d : Device) (s : Settings) (f : Facts) where
  abbrev row : Row
  row = row_of f.code

  -- a control command that needs a boundary
  orders : (r : Row) → r.latch ≡ false → (even : Bool)
      → ended (cond (not even) (Some OffBoundary) None) r d s f
      ≡ cond (not even) (nothing OffBoundary d) (obeyed r.command r d s f)
  unfolding ended
  orders r l true = refl
  orders r l false = rw l

  resets : (r : Row) → r.latch ≡ false → (sure even : Bool)
      → ended (cond (not sure) (Some ResetUnconfirmed) (cond (not even) (Some OffBoundary) None)) r d s f
      ≡ cond (not sure) (nothing ResetUnconfirmed d)
      (cond (not even) (nothing OffBoundary d) (obeyed r.command r d s f))
  unfolding ended
  resets r l true even = orders r l even
  resets r l false even = refl

  -- a command that needs WEL, with what may bar it
  works : (r : Row) → r.latch ≡ true → (cause : Cause) → drops cause r ≡ true → (wel even short shut : Bool)
      → ended
      (cond (not wel) (Some LatchClear)
      (cond (not even) (Some OffBoundary) (cond short (Some Incomplete) (cond shut (Some cause) None)))) r d s f
      ≡ cond (not wel) (nothing LatchClear d)
      (cond (not even) (aborted OffBoundary d)
      (cond short (aborted Incomplete d)
      (option_map_or (λ c. aborted c d) (then_some shut cause) (obeyed r.command r d s f))))
  unfolding ended
  works r l cause dropping false even short shut = refl
  works r l cause dropping true false short shut = rw l
  works r l cause dropping true true true shut = refl
  works r l cause dropping true true false true = rw dropping
  works r l cause dropping true true false false = refl

  abbrev listed : Judged
  listed = ended (cause_of row d f) row d s f

  -- a part that is awake and hears the frame
  module _ (m : d.mode ≡ Awake) (few : ltb f.bits 8 ≡ false) (heard : (f.busy && not row.busy) ≡ false) where
    of_unlisted : row.command ≡ Unlisted → listed ≡ by_opcode Unlisted row d s f
    unfolding ended cause_of
    of_unlisted e = rw (ap awake m, few, heard, e)

    of_read : (source : Source) → row.command ≡ Reads source → listed ≡ by_opcode (Reads source) row d s f
    unfolding ended cause_of
    of_read source e =
        let needs = read_needs f.code source e in
        rw (ap awake m, few, heard, e, needs.0, needs.1, asleep_is f.code (Reads source) e)

    of_order : (order : Order) → row.command ≡ Orders order → listed ≡ by_opcode (Orders order) row d s f
    unfolding ended cause_of
    of_order order e = by order e (order_needs f.code order e) (asleep_is f.code (Orders order) e)
      where
        by : (order : Order) → row.command ≡ Orders order
            → (row.boundary ≡ ordered_on_boundary order) × (row.latch ≡ false) × (row.busy ≡ ordered_while_busy order)
            × (row.bytes ≡ ordered_bytes order)
            → row.asleep ≡ resuming order
            → listed ≡ by_opcode (Orders order) row d s f
        by Enable e n a =
            rw (ap awake m, few, heard, e, n.0, n.1, a) (orders _ refl (on_boundary f))
        by Disable e n a =
            rw (ap awake m, few, heard, e, n.0, n.1, a) (orders _ refl (on_boundary f))
        by DeepPowerDown e n a =
            rw (ap awake m, few, heard, e, n.0, n.1, a) (orders _ refl (on_boundary f))
        by UltraDeepPowerDown e n a =
            rw (ap awake m, few, heard, e, n.0, n.1, a) (orders _ refl (on_boundary f))
        by Resume e n a = rw (ap awake m, few, heard, e, n.0, n.1, a)
        by Reset e n a =
            rw (ap awake m, few, heard, e, n.0, n.1, a)
            (resets _ refl (confirmed d f) (on_boundary f))

    of_work : (work : Work) → row.command ≡ Works work → listed ≡ by_opcode (Works work) row d s f
    unfolding ended cause_of
    of_work work e = by work e (work_needs f.code work e)
      where
        by : (work : Work) → row.command ≡ Works work
            → (row.boundary ≡ true) × (row.latch ≡ true) × (row.busy ≡ false) × (row.asleep ≡ false)
            → listed ≡ by_opcode (Works work) row d s f
        by Work.Program e n =
            rw (ap awake m, few, heard, e, n.0, n.1, n.3)
            (works _ refl _ refl _ _ _ _)
        by (Work.Erase region) e n =
            rw (ap awake m, few, heard, e, n.0, n.1, n.3)
            (works _ refl _ refl _ _ _ _)
        by Work.Otp e n =
            rw (ap awake m, few, heard, e, n.0, n.1, n.3)
            (works _ refl _ refl _ _ _ _)
        by Work.WriteStatus e n =
            rw (ap awake m, few, heard, e, n.0, n.1, n.3)
            (works _ refl _ refl _ _ _ _)
        by Work.WriteStatusTwo e n =
            rw (ap awake m, few, heard, e, n.0, n.1, n.3)
            (works _ refl Locked refl _ _ _ false)

    of_command : (command : Command) → row.command ≡ command → listed ≡ by_opcode command row d s f
    of_command Unlisted e = of_unlisted e
    of_command (Reads source) e = of_read source e
    of_command (Orders order) e = of_order order e
    of_command (Works work) e = of_work work e

  short_frame : ltb f.bits 8 ≡ true → listed ≡ nothing TooFewBits d
  unfolding ended cause_of
  short_frame few = rw few

  asleep : awake d.mode ≡ false → ltb f.bits 8 ≡ false → listed ≡ nothing Asleep d
  unfolding ended cause_of
  asleep m few = rw (few, m)

  ignored : d.mode ≡ Awake → ltb f.bits 8 ≡ false → (f.busy && not row.busy) ≡ true → listed ≡ nothing Busy d
  unfolding ended cause_of
  ignored m few busy = rw (few, ap awake m, busy)

  hears : d.mode ≡ Awake → ltb f.bits 8 ≡ false → (b : Bool) → (f.busy && not row.busy) ≡ b
      → listed ≡ cond b (nothing Busy d) (by_opcode row.command row d s f)
  hears m few true h = ignored m few h
  hears m few false h = of_command m few h row.command refl

  sleeps : awake d.mode ≡ false → ltb f.bits 8 ≡ false → (b : Bool)
      → cond b (ordered Resume d) listed ≡ cond b (ordered Resume d) (nothing Asleep d)
  sleeps m few true = refl
  sleeps m few false = asleep m few

  pub by_steps : judged d s f ≡ stepped d s f
  unfolding judged stepped
  by_steps = by d.mode refl (ltb f.bits 8) refl
    where
      by : (m : Mode) → d.mode ≡ m → (b : Bool) → ltb f.bits 8 ≡ b
          → cond (ultra_deep d.mode) (control (woken d)) (cond (wakes row d f) (ordered Resume d) listed)
          ≡ stepped d s f
      by UltraDeep m few t = rw (ap ultra_deep m)
      by Deep m true t = rw (ap ultra_deep m, ap deep m, t) (short_frame t)
      by Deep m false t = rw (ap ultra_deep m, ap deep m, t) (sleeps (ap awake m) t (row.asleep && on_boundary f))
      by Awake m true t = rw (ap ultra_deep m, ap deep m, t) (short_frame t)
      by Awake m false t = rw (ap ultra_deep m, ap deep m, t) (hears m t (f.busy && not row.busy) refl)
