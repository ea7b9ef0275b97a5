use Rattle.std.proofs.Common.{rules, ◌∙◌}
use borrow.Author.Tests.{tests}
use Rattle.std.proofs.lemmas.Iterator.{YieldsList-from_slice}
use Rattle.std.proofs.lemmas.Iterator.Search.{position_from_yields_List}
use Rattle.rings.proofs.ReadRows.{Past, past_rows}
use Rattle.rings.proofs.table_choices.first_past.Goals as goal

pub returns : goal.returns
returns c = c.unwrap_or.ensures
    ∙ past_rows _ _ _ (position_from_yields_List (Past c.args.cut) _ _ c.position.result c.position.ensures.ran (YieldsList-from_slice c.args.t.now (search rules)) (λ x b q k. search (rules, tests)))
