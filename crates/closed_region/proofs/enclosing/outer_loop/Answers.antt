use Rattle.closed_region.specs.Outer.{outer_of}
use Rattle.closed_region.proofs.enclosing.outer_loop.Goals as goal

pub returns : goal.returns
unfolding outer_of
returns g c = rw (← c.enclosing_one.ensures, ← c.last_largest.ensures) c.unwrap_or.ensures
