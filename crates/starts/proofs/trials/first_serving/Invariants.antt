use Prim.Native.Nat.{◌-◌}
use Rattle.tables.specs.Rows.{rows}
use Rattle.starts.proofs.Laws as laws
use Rattle.starts.proofs.trials.first_serving.Given as goal

abbrev pub invariant-loop-k : goal.invariant-loop-k
invariant-loop-k l = laws.Trying l.period (rows l.first) (rows l.later) l.all l.initial.trial l.trial l.k

abbrev pub decreases-loop-k : goal.decreases-loop-k
decreases-loop-k l = l.all - l.k
