-- Why nothing came of a frame, or why it was aborted: request R-5. Assumes nothing.
use Rattle.std.specs.Prelude.{Bool, ◌||◌, Option}
use lib.Text.{eqt}
use Rattle.opcodes.specs.Rows.{row_of}
use Rattle.judge.specs.declared.Cause.{Cause}
use Rattle.judge.specs.Causes.{holds, cause_of}
use Rattle.part.specs.Frame.{Call, Reply, risen, facts_of}

-- the outcomes that carry a cause
abbrev pub is_stopped : Reply → Bool
is_stopped r = eqt r.outcome "nothing" || eqt r.outcome "aborted"

-- whether a cause holds of a frame: by the record at its rise, what is known of it, and whether the part was busy at
-- its first bit
abbrev pub holds_of : Call → Cause → Bool
holds_of c cause = holds cause (row_of (facts_of c).code) (risen c) (facts_of c)

-- the first that holds
abbrev pub cause_for : Call → Option Cause
cause_for c = cause_of (row_of (facts_of c).code) (risen c) (facts_of c)
