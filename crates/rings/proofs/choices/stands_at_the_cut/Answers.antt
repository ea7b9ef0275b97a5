use Rattle.std.proofs.Common.{rules, ◌∙◌}
use borrow.Author.Tests.{tests}
use Rattle.std.proofs.lemmas.Iterator.Search.{any_from_yields_List}
use Rattle.rings.proofs.Decisions.{windows_road, pair_stands, any_stands}
use Rattle.rings.proofs.choices.stands_at_the_cut.Goals as goal

pub returns : goal.returns
returns c = any_from_yields_List (pair_stands c.args.period c.args.cut) _ _ _ c.any.ensures.ran
    (windows_road c.args.u.now (search rules) (search rules)) (λ w b q k. search (rules, tests))
    ∙ any_stands _ _ _
