use Rattle.std.proofs.Common.{sym}
use Rattle.tables.specs.Rows.{rows, none}
use Rattle.tables.proofs.Rows.{length-rows}
use Rattle.strip.proofs.corners.Laws as laws
use Rattle.strip.proofs.corners.back_corner.Goals as goal

pub returns-then-i-m : goal.returns-then-i-m
returns-then-i-m c = laws.back-first none _ _ _ _ (sym (length-rows c.args.upper.now)) (rows c.args.wall.now) c.if-i-m.true c.from_end.ensures

pub returns : goal.returns
returns c = laws.back-second none _ _ _ _ (sym (length-rows c.args.upper.now)) (rows c.args.wall.now) c.if-i-m.false c.from_end-2.ensures
