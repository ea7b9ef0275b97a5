use Rattle.loops.proofs.rows.Area.{summing_end}
use Rattle.loops.specs.Area.{cross_sum}
use Rattle.loops.proofs.rows.Reading.{adding, adding_turn}
use Rattle.loops.proofs.rows.signed_area.Goals as goal

pub loop-i-init : goal.loop-i-init
unfolding cross_sum
loop-i-init g c = adding _ _ g.met.R.TableRow.rows_are _

pub loop-i-preserved : goal.loop-i-preserved
loop-i-preserved g c =
    adding_turn _ _ g.met.R.TableRow.rows_are _ _ _ _ _ _ _ _ c.loop-i.invariant c.loop-i-test.true c.next.ensures c.index-t-i.is c.corner-c.ensures c.index-t-next.is
    c.corner-d.ensures

pub returns : goal.returns
returns g c = summing_end _ _ _ _ _ c.loop-i.invariant c.loop-i-test.false
