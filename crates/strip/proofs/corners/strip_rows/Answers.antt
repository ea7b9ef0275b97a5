use Rattle.std.proofs.Common.{sym, rules}
use Rattle.tables.proofs.Rows.{length-rows}
use Rattle.strip.proofs.corners.Laws as laws
use Rattle.strip.proofs.corners.strip_rows.Goals as goal

pub returns-then-min-eq0 : goal.returns-then-min-eq0
returns-then-min-eq0 c =
    laws.count_none _ _ _ _ _ _ (sym (length-rows c.args.lower.now)) (sym (length-rows c.args.upper.now)) c.min.ensures (search rules)
    c.if-min-eq0.true

pub returns : goal.returns
returns c = laws.count_some _ _ _ _ _ _ (sym (length-rows c.args.lower.now)) (sym (length-rows c.args.upper.now))
    c.min.ensures _ c.if-min-eq0.false c.strip_count.ensures
