use Rattle.std.proofs.Common.{sym, ap}
use Rattle.numbers.specs.declared.math.Vec3.{Vec3}
use Rattle.tables.specs.Corners.{Corner}
use Rattle.tables.proofs.Rows.{length-rows, row_at}
use Rattle.strip.proofs.corners.Laws as laws
use Rattle.strip.proofs.corners.strip_corner.Goals as goal

pub returns-then-i-n : goal.returns-then-i-n
returns-then-i-n c = laws.of_lower _ _ _ _ _ _ _ (sym (length-rows c.args.lower.now)) c.if-i-n.true (sym (row_at c.args.lower.now _ c.if-i-n.true))

pub returns-then-min-eq0 : goal.returns-then-min-eq0
returns-then-min-eq0 c = laws.of_none _ _ _ _ _ _ _ (sym (length-rows c.args.lower.now)) _ _ (sym (length-rows c.args.upper.now))
    c.min.ensures c.if-i-n.false c.if-min-eq0.true c.from_end.ensures

pub returns-then-past-eq0 : goal.returns-then-past-eq0
returns-then-past-eq0 c = laws.of_first _ _ _ _ _ _ _ (sym (length-rows c.args.lower.now)) _ _ (sym (length-rows c.args.upper.now))
    c.min.ensures c.if-i-n.false c.if-min-eq0.false _
    (ap (λ (c : Corner Vec3). c.u) c.corner_at-first.ensures) _ c.if-past-eq0.true c.corner_at-first.ensures c.moved_to.ensures

pub returns : goal.returns
returns c = laws.of_far _ _ _ _ _ _ _ (sym (length-rows c.args.lower.now)) _ _ (sym (length-rows c.args.upper.now))
    c.min.ensures c.if-i-n.false c.if-min-eq0.false _ (ap (λ (c : Corner Vec3). c.u) c.corner_at-first.ensures)
    c.if-past-eq0.false c.far_corner.ensures
