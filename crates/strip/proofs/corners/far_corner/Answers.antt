use Rattle.std.proofs.Common.{sym}
use Rattle.tables.specs.Rows.{rows}
use Rattle.tables.proofs.Rows.{length-rows, row_at}
use Rattle.strip.proofs.corners.Laws as laws
use Rattle.strip.proofs.corners.far_corner.Goals as goal

pub returns-then-i-k : goal.returns-then-i-k
returns-then-i-k c = laws.far-wall c.args.end (rows c.args.upper.now) _ _ _ _ (sym (length-rows c.args.wall.now)) _
    c.if-i-k.true (sym (row_at c.args.wall.now _ c.if-i-k.true)) c.moved_to.ensures

pub returns-then-i-k-2 : goal.returns-then-i-k-2
returns-then-i-k-2 c = laws.far-end c.args.end (rows c.args.upper.now) _ _ _ _ (sym (length-rows c.args.wall.now))
    _ c.if-i-k-2.true c.corner_at.ensures c.moved_to-then-i-k-2.ensures

pub returns : goal.returns
returns c = laws.far-back c.args.end (rows c.args.upper.now) _ _ _ _ (sym (length-rows c.args.wall.now))
    c.if-i-k.false c.if-i-k-2.false c.back_corner.ensures
