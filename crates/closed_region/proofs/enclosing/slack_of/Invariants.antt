use Rattle.closed_region.proofs.outer.Laws as laws
use Rattle.closed_region.proofs.enclosing.slack_of.Given as goal

abbrev pub invariant-loop-row : goal.invariant-loop-row
invariant-loop-row g l = let boxes = g.B.BoxRow.boxes_of l.boxes in laws.Sides boxes l.largest l.row-index × laws.FitBefore boxes l.row-index
