use Rattle.surfaces.specs.Rungs.{kept_left}
use Rattle.surfaces.proofs.knots.Walk.{Writing}
use Rattle.surfaces.proofs.knots.merge_even.Given as goal

abbrev pub invariant-loop-x : goal.invariant-loop-x
invariant-loop-x l = Writing l.lo l.hi l.n l.from l.initial.out l.out l.k (kept_left l.x-iterator)
