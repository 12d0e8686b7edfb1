-- What the table's rules say of a row whose command is known. Assumes nothing.
use Prim.Native.Nat.{ℕ}
use mathlib.Core.Bool.{Bool, true, false, false≢true, not, ◌&&◌, and-eq-true_iff, beq}
use mathlib.Core.Path.{◌≡◌, refl, subst}
use borrow.Author.Tests.{not-true, eqb-true}
use lib.Dec.{eqb}
use Rattle.opcodes.specs.declared.Row.{Row}
use Rattle.opcodes.specs.declared.Command.{Command}
use Rattle.opcodes.specs.declared.Command.TheVariants.{Unlisted, Reads, Orders, Works}
use Rattle.opcodes.specs.declared.Order.{Order}
use Rattle.opcodes.specs.declared.Source.{Source}
use Rattle.opcodes.specs.declared.Work.{Work}
use Rattle.opcodes.specs.Kinds.{resumes}
use Rattle.opcodes.specs.Rows.{row_of}
use Rattle.opcodes.specs.Rule.{rule_of, ordered_on_boundary, ordered_while_busy, ordered_bytes}
use Rattle.opcodes.proofs.Table.{rule_kept, sleep_kept}

same : (a b : Bool) → beq a b ≡ true → a ≡ b
same true true e = refl
same true false e = absurd (false≢true e)
same false true e = absurd (false≢true e)
same false false e = refl

module _ (code : ℕ) where
  abbrev row : Row
  row = row_of code

  kept : (command : Command) → row.command ≡ command → rule_of command row ≡ true
  kept command e = subst (λ (c : Command). rule_of c row ≡ true) e (rule_kept code)

  -- the column of deep power-down
  pub asleep_is : (command : Command) → row.command ≡ command → row.asleep ≡ resumes command
  asleep_is command e = subst (λ (c : Command). row.asleep ≡ resumes c) e (same row.asleep _ (sleep_kept code))

  pub unlisted_latch : row.command ≡ Unlisted → row.latch ≡ false
  unlisted_latch e =
      let parts = ((and-eq-true_iff (not row.latch && not row.busy) _).0 (kept Unlisted e)).0 in
      not-true row.latch ((and-eq-true_iff (not row.latch) _).0 parts).0

  -- of a read
  pub read_needs : (source : Source) → row.command ≡ Reads source
      → (row.boundary ≡ false) × (row.latch ≡ false) × (row.bytes ≡ 1)
  read_needs source e =
      let counted = (and-eq-true_iff _ (eqb row.bytes 1)).0 ((and-eq-true_iff _ _).0 (kept (Reads source) e)).0 in
      let first = ((and-eq-true_iff (not row.boundary && not row.latch) _).0 counted.0).0 in
      let each = (and-eq-true_iff (not row.boundary) (not row.latch)).0 first in (
        not-true row.boundary each.0,
        not-true row.latch each.1,
        eqb-true row.bytes 1 counted.1,
      )

  -- of a control command
  pub order_needs : (order : Order) → row.command ≡ Orders order
      → (row.boundary ≡ ordered_on_boundary order) × (row.latch ≡ false) × (row.busy ≡ ordered_while_busy order)
      × (row.bytes ≡ ordered_bytes order)
  order_needs order e =
      let spoken =
      (and-eq-true_iff _ (eqb row.bytes (ordered_bytes order))).0
      ((and-eq-true_iff _ _).0 (kept (Orders order) e)).0 in
      let heard = (and-eq-true_iff _ (beq row.busy (ordered_while_busy order))).0 spoken.0 in
      let first =
      (and-eq-true_iff (beq row.boundary (ordered_on_boundary order)) (not row.latch)).0 heard.0 in (
        same row.boundary _ first.0,
        not-true row.latch first.1,
        same row.busy _ heard.1,
        eqb-true row.bytes _ spoken.1,
      )

  -- of a command that needs WEL
  pub work_needs : (work : Work) → row.command ≡ Works work
      → (row.boundary ≡ true) × (row.latch ≡ true) × (row.busy ≡ false) × (row.asleep ≡ false)
  work_needs work e =
      let heard =
      (and-eq-true_iff (row.boundary && row.latch) (not row.busy)).0
      ((and-eq-true_iff _ _).0 (kept (Works work) e)).0 in
      let first = (and-eq-true_iff row.boundary row.latch).0 heard.0 in
      (first.0, first.1, not-true row.busy heard.1, asleep_is (Works work) e)
