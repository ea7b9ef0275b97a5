use Rattle.std.proofs.Common.{◌+◌, length, refl, ap, sym, ◌∙◌, arith, rules}
use borrow.Author.Tests.{leb-true, leb-false}
use Rattle.lists.proofs.Placed.{placed_short}
use Rattle.tables.specs.Rows.{rows}
use Rattle.tables.specs.Loops.{loops_in}
use Rattle.tables.proofs.PartRows.{rows-placed}
use Rattle.tables.proofs.LoopLaws.{loops_counted}
use Rattle.tables.proofs.Rows.{length-rows}
use Rattle.holes.specs.Others.{is_ring}
use Rattle.holes.proofs.Later.{later, picking-ring, picking_room, picking-hole, picking-end}
use Rattle.holes.proofs.rows.pick_holes.Goals as goal

pub returns-then-not-has_room : goal.returns-then-not-has_room
returns-then-not-has_room c =
    let all = later c.args.a c.args.b 0 (loops_in c.args.loops) in
    let short = leb-false (c.args.at + c.count_rows.result) (length c.args.out.now) (sym c.has_room.ensures ∙ c.if-not-has_room.true) in
    sym (placed_short c.args.at all (rows c.args.out.now) (omega (arith, short, c.count_rows.ensures.0, length-rows c.args.out.now)))

pub loop-i-init : goal.loop-i-init
loop-i-init c =
    let enough = leb-true (c.args.at + c.count_rows.result) (length c.args.out.now) (sym c.has_room.ensures ∙ c.if-not-has_room.false) in
    rw (c.into_iter-i-iterator.ensures.into_iter_gives, c.enumerate-i-items.ensures.count, c.enumerate-i-items.ensures.source) (record { is = refl; room = omega (arith, enough, c.count_rows.ensures.0, length-rows c.args.out.now) })

pub loop-i-init-derived : goal.loop-i-init-derived
loop-i-init-derived c = let many = loops_counted c.args.loops in search rules

pub overflow_add-here : goal.overflow_add-here
overflow_add-here c =
    let s = c.in-Some.ensures.steps in
    let hole = ap (is_ring c.args.a c.args.b) (sym s.1) ∙ sym c.is_ring.ensures ∙ c.if-not-is_ring.true in
    let room = picking_room _ _ _ _ _ _ _ _ _ c.loop-i.invariant s.0 hole in
    omega (arith, room, length-rows c.in-Some.one.now, length-rows c.loop-i.out)

pub loop-i-preserved-then-not-is_ring : goal.loop-i-preserved-then-not-is_ring
loop-i-preserved-then-not-is_ring c =
    let s = c.in-Some.ensures.steps in
    let hole = ap (is_ring c.args.a c.args.b) (sym s.1) ∙ sym c.is_ring.ensures ∙ c.if-not-is_ring.true in
    let copied = ap rows c.copy_into.ensures ∙ rows-placed c.loop-i.here c.in-Some.one.now c.loop-i.out in
    rw (s.2, copied, sym (length-rows c.in-Some.one.now)) (picking-hole _ _ _ _ _ _ _ _ _ c.loop-i.invariant s.0 hole)

pub loop-i-preserved : goal.loop-i-preserved
loop-i-preserved c =
    let s = c.in-Some.ensures.steps in
    let ring = ap (is_ring c.args.a c.args.b) (sym s.1) ∙ sym c.is_ring.ensures ∙ c.if-not-is_ring.false in
    rw s.2 (picking-ring _ _ _ _ _ _ _ _ _ c.loop-i.invariant s.0 ring)

pub returns : goal.returns
returns c = picking-end _ _ _ _ _ _ _ c.loop-i.invariant c.in-None.ensures.steps.0.0
