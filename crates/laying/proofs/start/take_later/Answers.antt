use Rattle.laying.proofs.Begun.{later-taken}
use Rattle.laying.proofs.start.take_later.Goals as goal

pub returns : goal.returns
returns c = later-taken _ c.args.later.now _ c.args.u.now c.args.v.now c.args.x.now c.args.y.now c.args.z.now
    _ _ _ _ _ _ _ _ _ _ _ _ _ _ _ c.requires c.columns_into.ensures.u_after c.columns_into.ensures.v_after
    c.columns_into.ensures.x_after c.columns_into.ensures.y_after c.columns_into.ensures.z_after
    c.rows_from.ensures _ _ c.nearest-near.ensures c.later_for.ensures c.align_at.ensures c.align_at-2.ensures c.align_at-3.ensures c.align_at-4.ensures
