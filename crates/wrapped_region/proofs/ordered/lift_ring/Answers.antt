use Rattle.wrapped_region.proofs.ordered.Laws.{stays_open, lifts, stays_low}
use Rattle.std.proofs.Common.{rules}
use Rattle.wrapped_region.proofs.ordered.lift_ring.Goals as goal

pub returns-in-Some : goal.returns-in-Some
returns-in-Some c = search (lifts, rules)

pub returns-else-crosses : goal.returns-else-crosses
returns-else-crosses c = search (stays_low, rules)

pub returns : goal.returns
returns c = search (stays_open, rules)
