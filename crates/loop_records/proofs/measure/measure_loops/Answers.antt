use Rattle.std.proofs.Common.{ap, sym, ◌∙◌, replicate, arith, rules}
use Rattle.lists.specs.Placed.{placed}
use Rattle.tables.proofs.LoopLaws.{loops_counted}
use Rattle.tables.proofs.Rows.{length-rows}
use Rattle.tables.specs.Rows.{rows}
use Rattle.loop_records.proofs.Recorded.{no_recording, recording, recording_room, recording_turn, recording_end}
use Rattle.loop_records.proofs.measure.measure_loops.Goals as goal

pub returns-then-loops-gt16 : goal.returns-then-loops-gt16
returns-then-loops-gt16 c =
    no_recording _ _ _ _ (omega (arith, c.if-loops-gt16.true)) ∙ ap (placed 0 _) (ap (replicate 16) c.no_loop-records.ensures)

pub loop-i-init : goal.loop-i-init
loop-i-init c =
    let first = recording c.args.period c.args.loops.counts.now (rows c.args.loops.corners.now) (replicate 16 c.no_loop-records.result) (omega (arith, c.if-loops-gt16.false)) in
    rw (c.into_iter-i-iterator.ensures.into_iter_gives, c.enumerate-i-items.ensures.count, c.enumerate-i-items.ensures.source) first

pub loop-i-init-derived : goal.loop-i-init-derived
loop-i-init-derived c = let many = loops_counted c.args.loops in search rules

pub offset_bounds-records-i : goal.offset_bounds-records-i
offset_bounds-records-i c =
    let room = recording_room _ _ _ _ _ _ _ _ _ _ c.loop-i.invariant c.in-Some.ensures.steps.0 in
    omega (arith, room.0, c.in-Some.ensures.steps.1)

pub bounds-records-i : goal.bounds-records-i
bounds-records-i c =
    let room = recording_room _ _ _ _ _ _ _ _ _ _ c.loop-i.invariant c.in-Some.ensures.steps.0 in
    omega (arith, room.0, c.in-Some.ensures.steps.1)

pub overflow_add-start : goal.overflow_add-start
overflow_add-start c =
    let room = recording_room _ _ _ _ _ _ _ _ _ _ c.loop-i.invariant c.in-Some.ensures.steps.0 in
    omega (arith, room.1, length-rows c.in-Some.one.now, length-rows c.args.loops.corners.now)

pub loop-i-preserved : goal.loop-i-preserved
loop-i-preserved c =
    let s = c.in-Some.ensures.steps in
    rw (s.1, s.2, c.measured.ensures, sym (length-rows c.in-Some.one.now)) (recording_turn _ _ _ _ _ _ _ _ _ _ c.loop-i.invariant s.0)

pub returns : goal.returns
returns c =
    recording_end _ _ _ _ _ _ _ _ c.loop-i.invariant c.in-None.ensures.steps.0.0 ∙ ap (placed 0 _) (ap (replicate 16) c.no_loop-records.ensures)
