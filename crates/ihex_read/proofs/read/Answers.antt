-- `ihex_read::read` meets its contract: the size, the judgement, and only then the array. Assumes nothing.
use Rattle.std.proofs.Common.{sym, ap, ◌∙◌}
use Rattle.std.proofs.lemmas.Result.{err_from_is_err_and}
use Rattle.refusals.proofs.Numbers.{never_0}
use Rattle.ihex_read.specs.Reader.{Told}
use Rattle.ihex_read.proofs.Answers.{size_refused, judgement, text_refused, text_read}
use Rattle.ihex_read.proofs.read.Goals as goal

pub returns-then-not-is_array : goal.returns-then-not-is_array
returns-then-not-is_array c =
    let both = size_refused c.args.text.now c.args.array.now (sym c.is_array.ensures ∙ c.if-not-is_array.true) in
    record { result_value = both.0; array_after = both.1 }

pub returns-in_err-judge : goal.returns-in_err-judge
returns-in_err-judge c =
    let sized = sym c.is_array.ensures ∙ c.if-not-is_array.false in
    let p = err_from_is_err_and c.from_residual.result c.from_residual.ensures.1 in
    let number = ap (λ (r : Told). r.refusal) c.in_err-judge.ensures in
    record {
      result_value = rw (p.1, p.2) (c.in_err-judge.ensures ∙ judgement c.args.text.now _ sized);
      array_after =
          text_refused c.args.text.now c.args.array.now sized
          (λ z. never_0 c.in_err-judge.field-0.0.refusal (number ∙ z));
    }

pub returns : goal.returns
returns c =
    let sized = sym c.is_array.ensures ∙ c.if-not-is_array.false in
    record {
      result_value = c.in_ok-judge.ensures ∙ judgement c.args.text.now _ sized;
      array_after = c.carry_out.ensures ∙ text_read c.args.text.now c.args.array.now sized
          (sym (ap (λ (r : Told). r.refusal) c.in_ok-judge.ensures));
    }
