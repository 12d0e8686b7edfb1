-- With 0 ticks per byte position a frame is document 01's, which takes no time. Assumes nothing.
use Prim.Native.Nat.{ℕ, ◌-◌, ◌*◌}
use mathlib.Core.Bool.{cond}
use mathlib.Core.Path.{◌≡◌, ap, fun_ext, ◌∙◌}
use native.Mathlib.Omega.{arith}
use lib.Dec.{eqb}
use Rattle.device.specs.declared.Device.{Device}
use Rattle.judge.specs.Judging.{judged}
use Rattle.refusals.specs.Refusals.{number_in}
use Rattle.calls.specs.Refusal.{bytes_for, refusal_of}
use Rattle.output.specs.Time.{standing}
use Rattle.part.specs.Frame.{Call, Lent, Result, lengths_of, timed, facts_of, covered_by, answered, refused, lent_by}
use Rattle.part.specs.Frame.{number_for, judged_of, replied, frame}
use Rattle.part.specs.Frozen.{paced, frozen}

-- positions that take no ticks leave the record as it stands
no_ticks : (d : Device) (k : ℕ) → standing d 0 k ≡ d
no_ticks d k = let e : d.busy - k * 0 ≡ d.busy = omega arith in rw e

module _ (c : Call) (m : Lent) where
  -- a frame by its number and by how the record stands at each position
  abbrev by : ℕ → (ℕ → Device) → Result
  by number stand =
      let j = judged (stand (bytes_for c.signals.bits)) c.settings (facts_of c) in
      record {
        reply = cond (eqb number 0) (answered j (covered_by j c (lengths_of c m))) (refused number c.device);
        lent = cond (eqb number 0) (lent_by j stand c m) m;
      }

  abbrev numbered : ℕ → ℕ
  numbered pace = number_in (refusal_of c.device c.settings (paced pace c.signals) (lengths_of c m))

  pub takes_no_time : c.signals.pace ≡ 0 → frame c m ≡ frozen c m
  unfolding frame replied number_for judged_of
  takes_no_time z = ap (λ (pace : ℕ). by (numbered pace) (standing (timed c) pace)) z ∙ ap (by (numbered 0)) (fun_ext (no_ticks (timed c)))
