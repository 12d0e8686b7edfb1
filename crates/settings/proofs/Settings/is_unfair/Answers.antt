-- `settings::Settings::is_unfair` meets its contract: a test of each of the durations is the list's. Assumes nothing.
use Rattle.std.proofs.Common.{rules, tests, ◌∙◌}
use Rattle.std.proofs.lemmas.Iterator.{YieldsList-from_slice}
use Rattle.std.proofs.lemmas.Iterator.Search.{any_from_yields_List}
use Rattle.settings.specs.Settings.{unfair}
use Rattle.settings.proofs.Durations.{any_is}
use Rattle.settings.proofs.Settings.is_unfair.Goals as goal

pub returns : goal.returns
returns c =
    any_from_yields_List unfair _ _ _ c.any.ensures.ran (YieldsList-from_slice c.args.self.ticks cc)
    (λ t b q k. search (rules, tests)) ∙
    any_is c.args.self.ticks
