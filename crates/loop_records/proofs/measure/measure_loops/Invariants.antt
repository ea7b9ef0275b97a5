use Rattle.std.proofs.Common.{length}
use Rattle.lists.specs.Placed.{placed}
use Rattle.tables.specs.Rows.{rows}
use Rattle.tables.specs.Loops.{loops_in}
use Rattle.loop_records.specs.Loops.{records_from}
use Rattle.loop_records.proofs.Recorded.{Recording}
use Rattle.loop_records.proofs.measure.measure_loops.Given as goal

abbrev pub invariant-loop-i : goal.invariant-loop-i
invariant-loop-i l =
    Recording l.period (placed 0 (records_from l.period 0 (loops_in l.loops)) l.initial.records) (length (rows l.loops.corners.now)) 16 l.records l.i-iterator.count l.start
    (loops_in l.i-iterator.iter)
