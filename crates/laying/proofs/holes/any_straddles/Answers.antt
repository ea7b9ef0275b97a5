use Rattle.std.proofs.Common.{rules, refl, ◌∙◌}
use borrow.Author.Tests.{tests}
use Rattle.std.proofs.lemmas.Iterator.Consumers.{YieldsList-from_first}
use Rattle.std.proofs.lemmas.Iterator.Search.{any_from_yields_List}
use Rattle.tables.specs.Corners.{us}
use Rattle.tables.specs.Loops.{loops_in}
use Rattle.tables.specs.Rows.{rows}
use Rattle.rings.specs.Choices.{straddles}
use Rattle.laying.proofs.EachHole.{any_of_holes}
use Rattle.laying.proofs.holes.any_straddles.Goals as goal

pub returns : goal.returns
returns c = any_from_yields_List (λ hole. straddles c.args.period c.args.lo (us hole)) c.any.new.self _ _ c.any.ensures.ran
    (YieldsList-from_first (λ one. rows one.now) loops_in (loops_in c.args.holes) refl) (λ hole b q k. search (rules, tests))
    ∙ any_of_holes c.args.period c.args.lo (loops_in c.args.holes)
