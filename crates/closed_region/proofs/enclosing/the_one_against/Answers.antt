use Rattle.std.proofs.Common.{arith, sym, ap, ◌∙◌}
use Rattle.closed_region.specs.ByOutermost.{encloses_outermost}
use Rattle.closed_region.proofs.AnyBoxes.{boxes_counted, box_there}
use Rattle.closed_region.proofs.outer.Laws as laws
use Rattle.closed_region.proofs.enclosing.the_one_against.Goals as goal
use Rattle.closed_region.proofs.enclosing.the_one_against.Goals.{then-encloses_outermost+else-is_some, else-encloses_outermost}

pub loop-i-init : goal.loop-i-init
loop-i-init g c = laws.seeking _ _

pub returns-then-is_some : goal.returns-then-is_some
returns-then-is_some g c =
    let are = g.met.B.BoxRow.boxes_are in
    let many = boxes_counted _ _ are c.args.boxes.now in
    let there = box_there _ _ are _ _ _ _ c.loop-i-test.true c.index-boxes-i.is c.bounds.ensures in
    let against = c.encloses_outermost.ensures ∙ ap (encloses_outermost c.args.slack c.args.outermost) (sym there) in
    let holds = laws.held_at _ _ _ _ _ _ against c.if-encloses_outermost.true in
    laws.seeking_two _ _ _ _ c.loop-i.invariant (omega arith) holds (rw (← c.is_some.ensures) c.if-is_some.true)

pub loop-i-preserved : goal.loop-i-preserved
loop-i-preserved g c =
    let are = g.met.B.BoxRow.boxes_are in
    let many = boxes_counted _ _ are c.args.boxes.now in
    let there = box_there _ _ are _ _ _ _ c.loop-i-test.true c.index-boxes-i.is c.bounds.ensures in
    let against = c.encloses_outermost.ensures ∙ ap (encloses_outermost c.args.slack c.args.outermost) (sym there) in
    elim c.if-encloses_outermost.branch [
      | then-encloses_outermost+else-is_some w ↦ rw w.found-is (laws.seeking_one _ _ _ _ c.loop-i.invariant (omega arith)
          (laws.held_at _ _ _ _ _ _ against w.if-encloses_outermost.true) (rw (← w.is_some.ensures) w.if-is_some.false))
      | else-encloses_outermost w ↦ rw w.found-is (laws.seeking_on _ _ _ _ c.loop-i.invariant (omega arith)
          (laws.held_at _ _ _ _ _ _ against w.if-encloses_outermost.false))
    ]
