-- Each turn lays one byte more.
use Rattle.std.proofs.Common.{◌-◌}
use Rattle.cells.proofs.Runs.{Reached}
use Rattle.ihex_layout.specs.Layout.{data_at}
use Rattle.ihex_read.specs.Reader.{lines_in, first}
use Rattle.ihex_read.proofs.Record.lay.Given as goal

abbrev pub invariant-loop-i : goal.invariant-loop-i
invariant-loop-i l =
    Reached (λ k x. data_at (first (lines_in l.self.rest.now)) (k - l.start)) l.start l.end l.initial.array l.i l.array
