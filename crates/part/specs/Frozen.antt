-- A frame as document 01 has it: it takes no time, so it is judged and does what it does by the record at its first
-- bit, and each position shows that record. With 0 ticks per byte position a frame is this; that is a law. Assumes
-- nothing.
use Rattle.std.specs.Prelude.{ℕ, cond, eqb}
use Rattle.judge.specs.declared.Judged.{Judged}
use Rattle.judge.specs.Judging.{judged}
use Rattle.calls.specs.declared.Lengths.{Lengths}
use Rattle.calls.specs.declared.Signals.{Signals}
use Rattle.calls.specs.Refusal.{refusal_of}
use Rattle.refusals.specs.Refusals.{number_in}
use Rattle.part.specs.Frame.{Call, Lent, Result, lengths_of, timed, facts_of, covered_by, answered, refused, lent_by}

-- the signals, with so many ticks per byte position
abbrev pub paced : ℕ → Signals → Signals
paced pace s = record { bits = s.bits; wp = s.wp; elapsed = s.elapsed; pace = pace }

-- refusals 1 to 7
abbrev frozen_number : Call → Lengths → ℕ
frozen_number c lengths = number_in (refusal_of c.device c.settings (paced 0 c.signals) lengths)

abbrev frozen_judged : Call → Judged
frozen_judged c = judged (timed c) c.settings (facts_of c)

abbrev pub frozen : Call → Lent → Result
frozen c m =
    let number = frozen_number c (lengths_of c m) in
    record {
      reply = cond (eqb number 0) (answered (frozen_judged c) (covered_by (frozen_judged c) c (lengths_of c m)))
          (refused number c.device);
      lent = cond (eqb number 0) (lent_by (frozen_judged c) (λ k. timed c) c m) m;
    }
