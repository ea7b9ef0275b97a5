use Rattle.std.proofs.Common.{ap, ◌∙◌, arith}
use Rattle.numbers.specs.declared.math.Vec3.{Vec3}
use Rattle.tables.specs.Corners.{Corners}
use Rattle.tables.proofs.PartRows.{part_rows}
use Rattle.tables.proofs.Rows.{length-rows, rows_part}
use Rattle.closed_region.specs.Holes.{rephased_corners, rephased_area}
use Rattle.closed_region.proofs.MovedHoles.{loop_stays, loop_moves}
use Rattle.closed_region.proofs.holes.rephase_loop.Goals as goal

pub returns-then-k-outer : goal.returns-then-k-outer
returns-then-k-outer c = let r = loop_stays _ _ _ _ _ _ _ c.if-k-outer.true in record { t_after = r.0; areas_after = r.1 }

pub offset_bounds-t-from : goal.offset_bounds-t-from
offset_bounds-t-from c = omega (arith, length-rows c.args.t.now)

pub slice_bounds-rephase_hole-end : goal.slice_bounds-rephase_hole-end
slice_bounds-rephase_hole-end c = omega (arith, length-rows c.args.t.now)

pub returns : goal.returns
returns c =
    let part = rows_part c.args.from c.args.to c.args.t.now in
    let r = loop_moves _ _ c.args.b _ _ c.args.from c.args.to c.if-k-outer.false _ _ _ _ c.at.ensures (
      c.rephase_hole-area.ensures.value ∙ ap (λ (l : Corners Vec3). rephased_area c.args.b l c.at.result) part,
      part_rows (rephased_corners c.args.b) c.args.from c.args.to c.args.t.now _ c.rephase_hole-area.ensures.t_after,
    ) c.put.ensures in
    record { t_after = r.0; areas_after = r.1 }
