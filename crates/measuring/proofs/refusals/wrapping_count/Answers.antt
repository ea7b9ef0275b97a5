use Rattle.std.proofs.Common.{rules, ◌∙◌}
use Rattle.std.proofs.lemmas.Iterator.{YieldsList-from_slice}
use Rattle.std.proofs.lemmas.Iterator.Consumers.{count_from_yields_List, YieldsList-from_filter}
use borrow.Author.Tests.{tests}
use Rattle.bands.specs.Given.{wraps}
use Rattle.measuring.proofs.Searches.{count_is}
use Rattle.measuring.proofs.refusals.wrapping_count.Goals as goal

pub returns : goal.returns
returns c = count_from_yields_List _ _ c.count.ensures.ran
    (YieldsList-from_filter _ wraps (YieldsList-from_slice c.args.wraps.now (search rules)) (search rules) (λ x b q k. search (rules, tests)))
    ∙ count_is _
