use Rattle.laying.proofs.Begun.{first_taken}
use Rattle.laying.proofs.start.take_first.Goals as goal

pub returns : goal.returns
returns c = first_taken _ c.args.first.now _ c.args.u.now c.args.v.now c.args.x.now c.args.y.now c.args.z.now
    _ _ _ _ _ _ _ _ _ _ _ _ _ _ _ c.requires c.columns_into.ensures.u_after c.columns_into.ensures.v_after
    c.columns_into.ensures.x_after c.columns_into.ensures.y_after c.columns_into.ensures.z_after
    c.rows_from.ensures _ c.begin_ring_at.ensures c.begin_ring_at-2.ensures c.begin_ring_at-3.ensures c.begin_ring_at-4.ensures c.begin_ring_at-5.ensures
