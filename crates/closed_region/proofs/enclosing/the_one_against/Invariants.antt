use Rattle.std.proofs.Common.{length}
use Rattle.closed_region.specs.ByOutermost.{encloses_outermost_at}
use Rattle.closed_region.proofs.outer.Laws as laws
use Rattle.closed_region.proofs.enclosing.the_one_against.Given as goal

abbrev pub invariant-loop-i : goal.invariant-loop-i
invariant-loop-i g l = let boxes = g.B.BoxRow.boxes_of l.boxes in laws.Seeking (encloses_outermost_at l.slack l.outermost boxes) (length boxes) l.found l.i
