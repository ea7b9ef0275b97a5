use native.Mathlib.Omega.{arith}
use Rattle.results.proofs.Rows as rows
use Rattle.results.proofs.put_counts.Goals as goal

pub loop-i-preserved : goal.loop-i-preserved
loop-i-preserved c = (omega arith, rows.counts_turn c.loop-i.invariant.1 c.loop-i-test.true c.to_le_bytes.ensures c.put.ensures)

pub returns : goal.returns
returns c = rows.counts_end c.loop-i.invariant.1 c.loop-i-test.false
