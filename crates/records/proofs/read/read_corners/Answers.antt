use mathlib.Core.Path.{sym, ◌∙◌}
use native.Mathlib.Omega.{arith}
use Rattle.tables.proofs.Rows.{length-rows}
use Rattle.records.proofs.Reading as reading
use Rattle.records.proofs.read.read_corners.Goals as goal

pub returns-then-not-counts_there : goal.returns-then-not-counts_there
returns-then-not-counts_there c = reading.corners_gone _ _ (sym c.counts_there.ensures ∙ c.if-not-counts_there.true)

pub invariant_of-points : goal.invariant_of-points
invariant_of-points c = record { counts_there = reading.there_long _ (sym c.counts_there.ensures ∙ c.if-not-counts_there.false) }

pub loops-requires : goal.loops-requires
loops-requires c = reading.there_header _ (sym c.counts_there.ensures ∙ c.if-not-counts_there.false)

pub returns-then-face-loops : goal.returns-then-face-loops
returns-then-face-loops c = reading.no_corners _ _ (omega arith) c.if-face-loops.true

pub returns-then-t-n : goal.returns-then-t-n
returns-then-t-n c = reading.no_corners_room _ _ c.points-n.ensures.0 (sym (length-rows c.args.t.now)) c.if-t-n.true

pub returns : goal.returns
returns c = reading.corners_read _ _ _
    (reading.corners_room _ _ c.points-n.ensures.0 (sym (length-rows c.args.t.now)) (omega arith) c.if-face-loops.false c.if-t-n.false)
    c.fill_corners.ensures
