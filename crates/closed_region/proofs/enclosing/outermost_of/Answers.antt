use Rattle.std.proofs.Common.{arith, sym, ap, ◌∙◌}
use Rattle.closed_region.specs.ByOutermost.{enclosable}
use Rattle.closed_region.proofs.AnyBoxes.{boxes_counted, box_there}
use Rattle.closed_region.proofs.outer.Laws as laws
use Rattle.closed_region.proofs.enclosing.outermost_of.Goals as goal
use Rattle.closed_region.proofs.enclosing.outermost_of.Goals.{then-encloses_within, else-encloses_within}

pub loop-row-init : goal.loop-row-init
loop-row-init g c = laws.taken _ _ _ c.empty_box-ends.ensures

pub loop-row-preserved : goal.loop-row-preserved
loop-row-preserved g c =
    let are = g.met.B.BoxRow.boxes_are in
    let many = boxes_counted _ _ are c.args.boxes.now in
    let there = box_there _ _ are _ _ _ _ c.loop-row-test.true c.row-item.is c.bounds-b.ensures in
    let within = c.encloses_within.ensures ∙ ap (enclosable c.args.slack) (sym there) in
    elim c.if-encloses_within.branch [
      | then-encloses_within w ↦ rw w.unenclosable-is (laws.taken_hull _ _ _ _ _ c.loop-row.invariant (omega arith) _ within w.if-encloses_within.true _ (rw (w.ends-is, there) w.hull-ends.ensures))
      | else-encloses_within w ↦ rw (w.ends-is, w.unenclosable-is) (laws.taken_not _ _ _ _ _ c.loop-row.invariant (omega arith) _ within w.if-encloses_within.false)
    ]

pub returns : goal.returns
returns g c =
    let many = boxes_counted _ _ g.met.B.BoxRow.boxes_are c.args.boxes.now in
    laws.taken_all _ _ _ _ _ c.loop-row.invariant (omega arith)
