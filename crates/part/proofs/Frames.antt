-- The parts of an accepted call put together. Assumes nothing.
use Prim.Native.Nat.{ℕ}
use mathlib.Core.List.{List}
use mathlib.Core.Path.{◌≡◌}
use lib.ListN.{length}
use Rattle.cells.specs.Each.{each, stored}
use Rattle.cells.specs.Range.{range}
use Rattle.device.specs.declared.Device.{Device}
use Rattle.judge.specs.declared.Judged.{Judged}
use Rattle.device.specs.Device.{is_busy}
use Rattle.judge.specs.Judging.{judged}
use Rattle.operations.specs.declared.Range.{Range}
use Rattle.operations.specs.Operations.{cell_of, on_array, on_register}
use Rattle.output.specs.Output.{store, read_at}
use Rattle.output.specs.Time.{standing}
use Rattle.part.specs.Frame.{Call, Lent, lent, lengths_of, timed, risen, facts_for, judged_of, covered_by, answered}
use Rattle.part.specs.Frame.{served}

-- from the record at the first bit, that at the rise, and what was judged of the two
pub together : (c : Call) (m : Lent) (d r : Device) (j : Judged) (covered : Range) (array register output : List ℕ) → d ≡ timed c → r ≡ risen c
    → j ≡ judged r c.settings (facts_for c.input c.signals (is_busy d))
    → covered ≡ covered_by j c (lengths_of c m)
    → array ≡ each (cell_of (on_array j.action (length m.array) c.input)) m.array
    → register ≡ each (cell_of (on_register j.action c.input)) m.register
    → output
    ≡ each
    (stored (range 0 (length c.input))
    (read_at j (standing d c.signals.pace) c.signals.wp c.signals.bits (store m.array) (store m.register) c.input))
    m.output
    → record { reply = answered j covered; lent = lent array register output } ≡ served c m
unfolding judged_of
together c m d r j covered array register output t u e v p q o = rw (v, p, q, o, e, t, u)
