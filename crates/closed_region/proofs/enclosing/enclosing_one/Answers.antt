use Rattle.std.proofs.Common.{◌∙◌, arith}
use Rattle.closed_region.proofs.AnyBoxes.{boxes_counted}
use Rattle.closed_region.proofs.outer.ByOutermost.{alone_found, by_outermost_lem, other_answer}
use Rattle.closed_region.proofs.enclosing.enclosing_one.Goals as goal

pub returns-then-boxes-eq1 : goal.returns-then-boxes-eq1
returns-then-boxes-eq1 g c = alone_found _ _ (boxes_counted _ _ g.met.B.BoxRow.boxes_are c.args.boxes.now ∙ c.if-boxes-eq1.true)

pub returns : goal.returns
returns g c =
    let many = boxes_counted _ _ g.met.B.BoxRow.boxes_are c.args.boxes.now in
    let several = other_answer _ (λ one. c.if-boxes-eq1.false (omega arith)) _ c.slack_of-slack.ensures.value _ c.outermost_of.ensures _ c.the_one_against.ensures in
    several ∙ by_outermost_lem _ c.slack_of-slack.ensures.fit
