-- `face_words::is_record` meets its contract: five flags are tested, and the mode behind them. Assumes nothing.
use Rattle.std.proofs.Common.{rules, tests, sym, ap, ◌∙◌, ◌&&◌, Bool, get_or}
use Rattle.std.specs.List.{between}
use Rattle.std.proofs.lemmas.Iterator.{YieldsList-from_slice}
use Rattle.std.proofs.lemmas.Iterator.Search.{all_from_yields_List}
use Rattle.face_words.specs.Words.{is_flag, is_mode}
use Rattle.face_words.proofs.Records.{flags_and_mode}
use Rattle.face_words.proofs.is_record.Goals as goal

pub returns-then-all : goal.returns-then-all
returns-then-all c =
    let ws = c.args.words.now in
    let flags =
    all_from_yields_List is_flag _ _ _ c.all.ensures.ran (YieldsList-from_slice (between 0 5 ws) cc)
    (λ t b q k. search (rules, tests)) in
    let then_mode : Bool → Bool = λ b. b && is_mode (get_or ws 5 0) in
    sym (flags_and_mode ws (search rules) ∙ ap then_mode (sym flags ∙ c.if-all.true))
