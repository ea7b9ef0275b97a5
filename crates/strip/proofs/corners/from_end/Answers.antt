use Rattle.std.proofs.Common.{sym, arith}
use Rattle.tables.specs.Rows.{none}
use Rattle.tables.proofs.Rows.{length-rows, row_at}
use Rattle.strip.proofs.corners.Laws as laws
use Rattle.strip.proofs.corners.from_end.Goals as goal

pub returns-then-i-n : goal.returns-then-i-n
returns-then-i-n c = laws.from_end none _ _ _ _ (sym (length-rows c.args.t.now)) c.if-i-n.true
    (sym (row_at c.args.t.now _ (omega arith)))

pub returns : goal.returns
returns c = laws.past_end none _ _ _ _ (sym (length-rows c.args.t.now)) c.if-i-n.false c.corner_at.ensures
