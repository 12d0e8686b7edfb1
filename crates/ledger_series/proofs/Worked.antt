-- The worked series end as they are said to. Assumes nothing.
use mathlib.Core.Path.{refl}
use Rattle.runs.specs.Run as run
use Rattle.opcodes.specs.Rows.{row_of, rows, lookup}
use Rattle.settings.specs.Settings.{any_unfair}
use Rattle.judge.specs.Causes.{cause_of}
use Rattle.judge.specs.Judging.{judged, ended}
use Rattle.calls.specs.Refusal.{refusal_of}
use Rattle.part.specs.Frame as part
use Rattle.ledger_frame.specs.Frame.{replied}
use Rattle.ledger.specs.Ledger.{above_before, booked}
use Rattle.ledger_series.specs.Worked.{Worked}

pub worked : Worked
unfolding run.end run.gathered replied booked above_before part.replied part.number_for part.judged_of refusal_of any_unfair
    judged ended cause_of row_of rows lookup
worked =
    record {
      at_the_limit = refl;
      total_above = refl;
      first_above = refl;
      last_above = refl;
      number_at_the_limit = refl;
      number_above = refl;
      most_is_free = refl;
      others_first = refl;
      shut_out = refl;
      not_latched = refl;
      latched_once = refl;
      stays_above = refl;
      stays_at_the_limit = refl;
      past = refl;
      border = refl;
      border_partly = refl;
      new_month = refl;
      new_month_partly = refl;
      closed_is = refl;
      largest_number = refl;
      nobody_runs = refl;
      report = refl;
      report_last = refl;
      report_other = refl;
      no_report = refl;
      first_million = refl;
      all_day = refl;
      nothing = refl;
      reset = refl;
      nobodys = refl;
      both = refl;
    }
