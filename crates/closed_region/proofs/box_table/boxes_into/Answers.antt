use Rattle.std.proofs.Common.{map, ap, sym, arith}
use Rattle.std.proofs.lemmas.List.{length-map}
use Rattle.lists.proofs.Pieces.{length-pieces}
use Rattle.lists.proofs.Remaining.{remaining, remaining_turn, remaining_end}
use Rattle.lists.proofs.Placed.{placed_short}
use Rattle.tables.specs.Loops.{loops_by}
use Rattle.closed_region.specs.Loops.{box_in}
use Rattle.closed_region.proofs.box_table.boxes_into.Goals as goal

pub returns-then-boxes-loops : goal.returns-then-boxes-loops
returns-then-boxes-loops g c =
    let ls = loops_by g.R.TableRow.rows_of c.args.loops in
    let many = length-pieces c.args.loops.counts.now (g.R.TableRow.rows_of c.args.loops.corners.now) in
    sym (placed_short 0 (map box_in ls) c.args.boxes.now (omega (arith, c.if-boxes-loops.true, length-map ls box_in, many)))

pub loop-i-init : goal.loop-i-init
loop-i-init g c =
    let ls = loops_by g.R.TableRow.rows_of c.args.loops in
    let many = length-pieces c.args.loops.counts.now (g.R.TableRow.rows_of c.args.loops.corners.now) in
    let first = remaining (map box_in ls) c.args.boxes.now (omega (arith, c.if-boxes-loops.false, length-map ls box_in, many)) in
    rw (c.into_iter-i-iterator.ensures.into_iter_gives, c.enumerate-i-items.ensures.count, c.enumerate-i-items.ensures.source) first

pub loop-i-preserved : goal.loop-i-preserved
loop-i-preserved g c =
    let rows = g.R.TableRow.rows_of in
    let s = c.in-Some.ensures.steps in
    let left = ap (map box_in) s.0 in
    let turned = remaining_turn _ _ _ _ (box_in (rows c.in-Some.one.now)) (map box_in (loops_by rows c.next.new.self.iter)) c.loop-i.invariant left in
    rw (s.1, s.2, c.box_of.ensures) turned

pub returns : goal.returns
returns g c = remaining_end _ _ _ _ c.loop-i.invariant (ap (map box_in) c.in-None.ensures.steps.0.0)
