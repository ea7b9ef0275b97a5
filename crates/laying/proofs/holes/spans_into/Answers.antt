use Rattle.std.proofs.Common.{map, ap, sym, arith}
use Rattle.lists.specs.Pieces.{pieces}
use Rattle.lists.proofs.Remaining.{remaining, remaining_turn, remaining_end}
use Rattle.tables.specs.Corners.{us}
use Rattle.tables.specs.Rows.{rows}
use Rattle.tables.specs.Loops.{loops_in}
use Rattle.seam.specs.Gap.{span_of}
use Rattle.laying.proofs.EachHole.{not_covering, length-spans, span_of_hole, spans_by_hole}
use Rattle.laying.proofs.holes.spans_into.Goals as goal

pub returns-then-out-holes : goal.returns-then-out-holes
returns-then-out-holes c = not_covering _ _ _ c.if-out-holes.true

pub loop-i-init : goal.loop-i-init
loop-i-init c =
    let counts = c.args.holes.counts.now in
    let t = c.args.holes.corners.now in
    let spans = map span_of (pieces counts (us (rows t))) in
    let first = remaining spans c.args.out.now (omega (arith, c.if-out-holes.false, length-spans counts t c.args.out.now)) in
    rw (c.into_iter-i-iterator.ensures.into_iter_gives, c.enumerate-i-items.ensures.count, c.enumerate-i-items.ensures.source, sym (spans_by_hole counts (rows t))) first

pub loop-i-preserved : goal.loop-i-preserved
loop-i-preserved c =
    let s = c.in-Some.ensures.steps in
    let left = ap (map span_of_hole) s.0 in
    rw (s.1, s.2, c.span_of.ensures) (remaining_turn _ _ _ _ (span_of_hole (rows c.in-Some.hole.now)) (map span_of_hole (loops_in c.next.new.self.iter)) c.loop-i.invariant left)

pub returns : goal.returns
returns c = remaining_end _ _ _ _ c.loop-i.invariant (ap (map span_of_hole) c.in-None.ensures.steps.0.0)
