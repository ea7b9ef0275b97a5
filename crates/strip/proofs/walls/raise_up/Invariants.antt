use Rattle.surfaces.specs.Rungs.{kept_left}
use Rattle.strip.proofs.walls.Raising.{Raising}
use Rattle.strip.proofs.walls.raise_up.Given as goal

abbrev pub invariant-loop-k : goal.invariant-loop-k
invariant-loop-k l = Raising l.patch l.u (kept_left l.fn.heights) l.initial.wall l.wall l.k-iterator.count (kept_left l.k-iterator.iter)
