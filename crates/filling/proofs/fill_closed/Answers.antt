use Rattle.std.proofs.Common.{refl, replicate, rules}
use Rattle.filling.proofs.Closed.{closed_filled}
use Rattle.filling.proofs.fill_closed.Goals as goal

pub returns : goal.returns
returns c = λ f some none.
    let left = c.closed_face.ensures in
    closed_filled c.args.face.bytes.now f.accepted some none _ f.surface_is _ _ f.read.counts_are f.read.corners_are _ f.areas_are
    (replicate 16 c.empty_box-boxes.result) refl _ _ c.u_period.ensures c.v_period.ensures _ _ _ _ _ _ _ _
    left.t_after left.areas_after left.out_after left.out_counts_after left.out_areas_after (search rules) (search rules) (search rules)
