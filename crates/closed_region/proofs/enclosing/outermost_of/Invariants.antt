use Rattle.closed_region.proofs.outer.Laws as laws
use Rattle.closed_region.proofs.enclosing.outermost_of.Given as goal

abbrev pub invariant-loop-row : goal.invariant-loop-row
invariant-loop-row g l = laws.Taken l.slack (g.B.BoxRow.boxes_of l.boxes) l.ends l.unenclosable l.row-index
