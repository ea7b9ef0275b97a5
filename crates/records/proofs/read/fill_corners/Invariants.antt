use Rattle.records.proofs.Columns as columns
use Rattle.records.proofs.read.fill_corners.Given as goal

abbrev pub invariant-loop-i : goal.invariant-loop-i
invariant-loop-i l = columns.Reading l.face l.n l.uv l.xyz l.initial.t l.t l.i
