use Rattle.tables.specs.Rows.{rows, corner_of}
use Rattle.strip.specs.Corners.{strip_with}
use Rattle.strip.proofs.repeats.Laws as laws
use Rattle.strip.proofs.closing.keep_successive.Given as goal

abbrev pub invariant-loop-i : goal.invariant-loop-i
invariant-loop-i l =
    laws.Folding (strip_with l.period (rows l.lower) (rows l.upper) (rows l.wall)) l.n l.initial.out l.out (corner_of l.last) l.m l.i
