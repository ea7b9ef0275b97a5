use Rattle.records.specs.Face.{head}
use Rattle.records.proofs.Columns as columns
use Rattle.records.proofs.read.read_head.Given as goal

abbrev pub invariant-loop-i : goal.invariant-loop-i
invariant-loop-i l = columns.Filling (head l.face) l.initial.dst l.dst l.i
