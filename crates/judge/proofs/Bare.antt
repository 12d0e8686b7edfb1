-- With the causes struck out, judging is as it was before there were any: outcome, record, action and driven positions,
-- for every record, settings and frame. Assumes nothing.
use Prim.Native.Nat.{◌+◌, ◌/◌, ◌%◌, ◌≤◌}
use mathlib.Core.Bool.{Bool, true, false, false≢true, cond, not, ◌&&◌, ◌||◌}
use mathlib.Core.Path.{◌≡◌, refl, ap, ◌∙◌}
use native.Mathlib.Omega.{arith}
use borrow.Author.Tests.{ltb-true, ltb-false, leb-true, eqb-true, le-leb, lt-leb}
use lib.Dec.{leb, ltb, eqb}
use Rattle.std.specs.Bool.{then_some}
use Rattle.std.specs.Option.{option_map_or}
use Rattle.opcodes.specs.declared.Row.{Row}
use Rattle.opcodes.specs.declared.Command.{Command}
use Rattle.opcodes.specs.declared.Command.TheVariants.{Unlisted, Reads, Orders, Works}
use Rattle.opcodes.specs.declared.Order.{Order}
use Rattle.opcodes.specs.declared.Order.TheVariants.{Enable, Disable, DeepPowerDown, UltraDeepPowerDown, Resume, Reset}
use Rattle.opcodes.specs.declared.Work.{Work}
use Rattle.opcodes.specs.Rows.{row_of}
use Rattle.opcodes.specs.Rule.{ordered_on_boundary, ordered_while_busy, ordered_bytes}
use Rattle.opcodes.proofs.Kept.{unlisted_latch, read_needs, order_needs, work_needs}
use Rattle.device.specs.declared.Device.{Device}
use Rattle.device.specs.Device.{deep, ultra_deep, dropped}
use Rattle.settings.specs.declared.Settings.{Settings}
use Rattle.judge.specs.declared.Facts.{Facts}
use Rattle.judge.specs.declared.Judged.{Judged}
use Rattle.judge.specs.declared.Cause.{Cause}
use Rattle.judge.specs.declared.Cause.TheVariants.{LatchClear, ResetUnconfirmed, OffBoundary, Incomplete}
use Rattle.judge.specs.declared.Cause.TheVariants.{Protected, Locked, AlreadyProgrammed}
use Rattle.judge.specs.declared.Outcome.{Outcome}
use Rattle.judge.specs.Causes.{on_boundary}
use Rattle.judge.specs.Judging.{quiet, nothing, aborted, read, judged}
use Rattle.judge.specs.Steps as steps
use Rattle.judge.specs.Steps.{stepped}
use Rattle.judge.specs.Bare.{any_cause, uncaused, by_opcode, bare}
use Rattle.judge.proofs.Steps.{by_steps}

module _ (d : Device) (s : Settings) (f : Facts) (fits : (f.bits + 7) / 8 ≡ f.bytes) where
  abbrev row : Row
  row = row_of f.code

  -- nothing and aborted, the cause struck out
  abbrev still : Judged
  still = quiet (Outcome.Nothing any_cause) d

  abbrev spent : Judged
  spent = quiet (Outcome.Aborted any_cause) (dropped d)

  -- an opcode's steps; x is the command carried out, which has no cause
  either : (b : Bool) (x : Judged) → x ≡ cond b x x
  either true x = refl
  either false x = refl

  orders : (x : Judged) → uncaused x ≡ x → (even : Bool)
      → uncaused (cond (not even) (nothing OffBoundary d) x) ≡ cond (even || false) x still
  orders x u true = u
  orders x u false = refl

  resets : (x : Judged) → uncaused x ≡ x → (rste key long even two : Bool) → (long ≡ true → two ≡ true)
      → (even ≡ true → two ≡ true → long ≡ true)
      → uncaused
      (cond (not (rste && (key && long))) (nothing ResetUnconfirmed d) (cond (not even) (nothing OffBoundary d) x))
      ≡ cond (two && (even || false)) (cond (rste && key) x still) still
  resets x u false key long even two has clash = either (two && (even || false)) still
  resets x u true false long even two has clash = either (two && (even || false)) still
  resets x u true true true even true has clash = orders x u even
  resets x u true true true even false has clash = absurd (false≢true (has refl))
  resets x u true true false even false has clash = refl
  resets x u true true false false true has clash = refl
  resets x u true true false true true has clash = absurd (false≢true (clash refl refl))

  works : (x : Judged) → uncaused x ≡ x → (cause : Cause) (wel even short shut : Bool)
      → uncaused
      (cond (not wel) (nothing LatchClear d)
      (cond (not even) (aborted OffBoundary d)
      (cond short (aborted Incomplete d) (option_map_or (λ c. aborted c d) (then_some shut cause) x))))
      ≡ cond (not wel) still (cond (not short && (even || false)) (cond shut spent x) spent)
  works x u cause false even short shut = refl
  works x u cause true true true shut = refl
  works x u cause true true false true = refl
  works x u cause true true false false = u
  works x u cause true false true shut = refl
  works x u cause true false false shut = refl

  -- enough bytes are not too few
  enough : leb row.bytes f.bytes ≡ not (ltb f.bytes row.bytes)
  enough = by (ltb f.bytes row.bytes) refl
    where
      by : (b : Bool) → ltb f.bytes row.bytes ≡ b → leb row.bytes f.bytes ≡ not b
      by true e = lt-leb row.bytes f.bytes (ltb-true f.bytes row.bytes e)
      by false e = le-leb row.bytes f.bytes (ltb-false f.bytes row.bytes e)

  -- by opcode, of a frame with a whole opcode
  abbrev Same : Type 0
  Same = uncaused (steps.by_opcode row.command row d s f) ≡ by_opcode row d s f

  module _ (few : ltb f.bits 8 ≡ false) where
    -- it has the byte that reads and control commands need
    opcode : row.bytes ≡ 1 → leb row.bytes f.bytes ≡ true
    opcode one =
        let whole : 8 ≤ f.bits = ltb-false f.bits 8 few in
        le-leb row.bytes f.bytes (omega (arith, fits, one))

    of_order : (order : Order) → row.command ≡ Orders order → Same
    unfolding by_opcode
    of_order order e = by order e (order_needs f.code order e)
      where
        -- 16 bits and more have two bytes, and on a boundary two bytes are 16 bits
        second : leb 16 f.bits ≡ true → leb 2 f.bytes ≡ true
        second long = let bits : 16 ≤ f.bits = leb-true 16 f.bits long in le-leb 2 f.bytes (omega (arith, fits))

        clocked : on_boundary f ≡ true → leb 2 f.bytes ≡ true → leb 16 f.bits ≡ true
        clocked even two =
            let none : f.bits % 8 ≡ 0 = eqb-true (f.bits % 8) 0 even in
            let most : 2 ≤ f.bytes = leb-true 2 f.bytes two in
            le-leb 16 f.bits (omega (arith, fits, none))

        by : (order : Order) → row.command ≡ Orders order
            → (row.boundary ≡ ordered_on_boundary order) × (row.latch ≡ false) × (row.busy ≡ ordered_while_busy order)
            × (row.bytes ≡ ordered_bytes order)
            → Same
        by Enable e n = rw (e, n.0, n.1, opcode n.3) (orders _ refl (on_boundary f))
        by Disable e n = rw (e, n.0, n.1, opcode n.3) (orders _ refl (on_boundary f))
        by DeepPowerDown e n = rw (e, n.0, n.1, opcode n.3) (orders _ refl (on_boundary f))
        by UltraDeepPowerDown e n = rw (e, n.0, n.1, opcode n.3) (orders _ refl (on_boundary f))
        by Resume e n = rw (e, n.0, n.1, opcode n.3) (either (on_boundary f || true) still)
        by Reset e n =
            rw (e, n.0, n.1, n.3)
            (resets _ refl d.rste (eqb f.second 0xD0) (leb 16 f.bits) (on_boundary f) (leb 2 f.bytes) second
            clocked)

    of_work : (work : Work) → row.command ≡ Works work → Same
    unfolding by_opcode
    of_work work e = by work e (work_needs f.code work e)
      where
        even : Bool
        even = on_boundary f

        short : Bool
        short = ltb f.bytes row.bytes

        by : (work : Work) → row.command ≡ Works work
            → (row.boundary ≡ true) × (row.latch ≡ true) × (row.busy ≡ false) × (row.asleep ≡ false)
            → Same
        by Work.Program e n = rw (e, n.0, n.1, enough) (works _ refl Protected d.wel even short d.bp0)
        by (Work.Erase region) e n = rw (e, n.0, n.1, enough) (works _ refl Protected d.wel even short d.bp0)
        by Work.Otp e n = rw (e, n.0, n.1, enough) (works _ refl AlreadyProgrammed d.wel even short d.used)
        by Work.WriteStatus e n =
            rw (e, n.0, n.1, enough) (works _ refl Locked d.wel even short (d.bpl && not f.wp))
        by Work.WriteStatusTwo e n = rw (e, n.0, n.1, enough) (works _ refl Locked d.wel even short false)

    of_command : (command : Command) → row.command ≡ command → Same
    unfolding by_opcode
    of_command Unlisted e =
        rw (e, unlisted_latch f.code e)
        (either (leb row.bytes f.bytes && (on_boundary f || not row.boundary)) still)
    of_command (Reads source) e =
        let needs = read_needs f.code source e in
        rw (e, needs.0, needs.1, opcode needs.2) (reads (on_boundary f))
      where
        reads : (even : Bool) → read row source d f ≡ cond (even || true) (read row source d f) still
        reads true = refl
        reads false = refl
    of_command (Orders order) e = of_order order e
    of_command (Works work) e = of_work work e

  -- of a choice
  chosen : (b : Bool) (x y u v : Judged) → uncaused x ≡ u → (b ≡ false → uncaused y ≡ v)
      → uncaused (cond b x y) ≡ cond b u v
  chosen true x y u v p q = p
  chosen false x y u v p q = q refl

  -- The causes struck out, nothing else moved.
  pub as_before : uncaused (judged d s f) ≡ bare d s f
  unfolding stepped bare
  as_before =
      ap uncaused (by_steps d s f) ∙
      chosen (ultra_deep d.mode) _ _ _ _ refl
      (λ u.
      chosen (ltb f.bits 8) _ _ _ _ refl
      (λ few.
      chosen (deep d.mode) _ _ _ _ (chosen (row.asleep && on_boundary f) _ _ _ _ refl (λ n. refl))
      (λ m. chosen (f.busy && not row.busy) _ _ _ _ refl (λ h. of_command few row.command refl))))
