use Rattle.holes.proofs.picked.Laws.{picking, picking_none, picking_ring, picking_hole, picking_room, picking_end}
use Rattle.holes.proofs.picked.pick.Goals as goal
use Rattle.holes.proofs.picked.pick.Goals.{then-not-is_ring, else-not-is_ring}

pub returns-then-not-has_room : goal.returns-then-not-has_room
returns-then-not-has_room g c = picking_none _ _ _ _ _ _ _ c.count_holes.ensures c.has_room.ensures c.if-not-has_room.true

pub loop-i-init : goal.loop-i-init
loop-i-init g c = picking _ _ _ _ _ _ _ c.count_holes.ensures c.has_room.ensures c.if-not-has_room.false

pub bounds-dst-at : goal.bounds-dst-at
bounds-dst-at g c = (picking_room _ _ _ _ _ c.index-src-i.result _ _ _ c.loop-i.invariant c.loop-i-test.true _
    c.is_ring.ensures c.if-not-is_ring.true).0

pub loop-i-preserved : goal.loop-i-preserved
loop-i-preserved g c =
    elim c.if-not-is_ring.branch [
      | then-not-is_ring w ↦ rw (w.k-is, w.dst-is) (picking_hole _ _ _ _ _ c.index-src-i.result _ _ _ c.loop-i.invariant c.loop-i-test.true _
          c.is_ring.ensures w.if-not-is_ring.true _ c.index-src-i.is)
      | else-not-is_ring w ↦ rw (w.k-is, w.dst-is) (picking_ring _ _ _ _ _ c.index-src-i.result _ _ _ c.loop-i.invariant c.loop-i-test.true _
          c.is_ring.ensures w.if-not-is_ring.false)
    ]

pub returns : goal.returns
returns g c = picking_end _ _ _ _ _ _ _ _ c.loop-i.invariant c.loop-i-test.false
