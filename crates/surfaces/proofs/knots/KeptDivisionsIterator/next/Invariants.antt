use Rattle.std.proofs.Common.{◌≡◌}
use Rattle.surfaces.specs.Rungs.{kept_left}
use Rattle.surfaces.proofs.knots.Walk.{left}
use Rattle.surfaces.proofs.knots.KeptDivisionsIterator.next.Given as goal

abbrev pub invariant-loop-i : goal.invariant-loop-i
invariant-loop-i l = kept_left l.initial.self ≡ left l.s.lo l.s.hi l.s.n l.s.slack l.s.last l.i
