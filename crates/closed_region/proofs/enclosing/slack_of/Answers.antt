use Rattle.std.proofs.Common.{arith, sym, ap, ◌∙◌}
use Rattle.closed_region.specs.Outer.{side_of}
use Rattle.closed_region.proofs.AnyBoxes.{boxes_counted, box_there}
use Rattle.closed_region.proofs.outer.Laws as laws
use Rattle.closed_region.proofs.enclosing.slack_of.Goals as goal

pub loop-row-preserved : goal.loop-row-preserved
loop-row-preserved g c =
    let are = g.met.B.BoxRow.boxes_are in
    let many = boxes_counted _ _ are c.args.boxes.now in
    let there = box_there _ _ are _ _ _ _ c.loop-row-test.true c.row-item.is c.bounds.ensures in
    let side = c.longer_side.ensures in (
      laws.sides_turn _ _ _ _ _ c.loop-row.invariant.0 (omega arith) (side.value ∙ ap side_of (sym there)) c.max-largest.ensures,
      laws.fit_turn _ _ c.loop-row.invariant.1 (rw there side.fit),
    )

pub returns : goal.returns
returns g c =
    let many = boxes_counted _ _ g.met.B.BoxRow.boxes_are c.args.boxes.now in
    record {
      value = laws.sides-end _ _ _ c.loop-row.invariant.0 (omega arith);
      fit = laws.all_fit _ _ c.loop-row.invariant.1 (omega arith);
    }
