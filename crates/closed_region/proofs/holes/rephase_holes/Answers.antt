use Rattle.closed_region.proofs.MovedHoles.{rephasing, rephasing_turn, still, no_outer, no_areas, holes_left}
use Rattle.closed_region.proofs.holes.rephase_holes.Goals as goal

pub returns-then-counts-outer : goal.returns-then-counts-outer
returns-then-counts-outer c = let r = no_outer _ _ _ _ _ _ c.if-counts-outer.true in record { t_after = r.0; areas_after = r.1 }

pub returns-then-areas-counts : goal.returns-then-areas-counts
returns-then-areas-counts c = let r = no_areas _ _ _ _ _ _ c.if-areas-counts.true in record { t_after = r.0; areas_after = r.1 }

pub loop-k-init : goal.loop-k-init
loop-k-init c = rephasing _ _ _ _ _ c.if-counts-outer.false c.if-areas-counts.false

pub rephase_loop-requires : goal.rephase_loop-requires
rephase_loop-requires c = still _ _ _ _ _ _ _ _ _ c.loop-k.invariant _ c.piece_end-to.ensures

pub loop-k-preserved : goal.loop-k-preserved
loop-k-preserved c = rephasing_turn _ _ _ _ _ _ _ _ _ c.loop-k.invariant _ _ _ c.loop-k-test.true
    c.piece_end-to.ensures c.rephase_loop.ensures.t_after c.rephase_loop.ensures.areas_after

pub returns : goal.returns
returns c =
    let r = holes_left _ _ _ _ _ _ _ _ _ _ _ _ c.loop_of.ensures c.branch_of-b.ensures c.loop-k.invariant c.loop-k-test.false in
    record { t_after = r.0; areas_after = r.1 }
