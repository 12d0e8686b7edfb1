-- The rows worked by hand, table by table: each reply, record and byte is as its row says. Assumes nothing.
use Rattle.worked.specs.Worked.{EachWorked}
use Rattle.worked.specs.Table.{table}
use Rattle.worked.specs.Further.{further}
use Rattle.worked.specs.Polls.{polls}
use Rattle.worked.specs.Flags.{flags}
use Rattle.worked.specs.Modes.{modes}
use Rattle.worked.specs.Data.{data_rows}
use Rattle.worked.specs.Reads.{read_rows}
use Rattle.worked.specs.Refused.{refused_rows}
use Rattle.worked.specs.Causes.{cause_rows}

pub record Rows : Type 0 where
  -- P1 to P10, the session and the limits
  pub worked_table : EachWorked table
  -- each opcode, each duration, each way to be aborted or refused
  pub worked_further : EachWorked further
  -- frames that take time
  pub worked_polls : EachWorked polls
  -- the flags, unlike each other
  pub worked_flags : EachWorked flags
  -- the modes, and what is not heard
  pub worked_modes : EachWorked modes
  -- what changes array and register
  pub worked_data : EachWorked data_rows
  -- what is read
  pub worked_reads : EachWorked read_rows
  -- the refusals, at their limits and in their order
  pub worked_refused : EachWorked refused_rows
  -- why nothing came of a frame
  pub worked_causes : EachWorked cause_rows
