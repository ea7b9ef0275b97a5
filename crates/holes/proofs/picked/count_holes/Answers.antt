use Rattle.std.proofs.Common.{rules, arith, ◌∙◌, not}
use Rattle.std.proofs.lemmas.Iterator.{YieldsList-from_range}
use Rattle.std.proofs.lemmas.Iterator.Consumers.{count_from_yields_List, YieldsList-from_filter}
use borrow.Author.Tests.{tests}
use Rattle.lists.specs.Places.{places}
use Rattle.holes.specs.Others.{is_ring}
use Rattle.holes.proofs.picked.Laws.{holes_in_range}
use Rattle.holes.proofs.picked.count_holes.Goals as goal

pub returns : goal.returns
unfolding places
returns c = count_from_yields_List _ _ c.count.ensures.ran
    (YieldsList-from_filter _ (λ i. not (is_ring c.args.a c.args.b i)) (YieldsList-from_range 0 c.args.n c.args.n c.filter.ensures.source (omega arith)) c.filter.ensures.closure
    (λ x b q k. search (rules, tests)))
    ∙ holes_in_range c.args.a c.args.b 0 c.args.n
