use Rattle.std.proofs.Common.{ap, ◌∙◌, rules}
use Rattle.tables.specs.Rows.{rows}
use Rattle.tables.proofs.PartRows.{rows_of_part}
use Rattle.strip.proofs.closing.Laws as laws
use Rattle.strip.proofs.closing.close_strip.Goals as goal

pub returns-then-room-n : goal.returns-then-room-n
returns-then-room-n c = let r = laws.strip_too_many c.args.patch c.args.period (rows c.args.lower.now) (rows c.args.upper.now) _ _
    (record { inner_is = c.inner_between-inner.ensures; count_is = c.strip_rows-n.ensures })
    c.args.wall.now c.args.out.now _ c.min-room.ensures c.if-room-n.true in
    record { value = r.0; out_after = r.1 }

pub close_rows-requires : goal.close_rows-requires
close_rows-requires c = laws.rows_require c.args.patch c.args.period (rows c.args.lower.now) (rows c.args.upper.now) _ _
    (record { inner_is = c.inner_between-inner.ensures; count_is = c.strip_rows-n.ensures })
    c.args.wall.now c.args.out.now _ c.min-room.ensures c.if-room-n.false (search rules)
    _ _ c.raise_wall.ensures.raised (ap rows c.part.ensures ∙ rows_of_part _ _ _)

pub returns : goal.returns
returns c = let r = laws.strip-fits c.args.patch c.args.period (rows c.args.lower.now) (rows c.args.upper.now) _ _
    (record { inner_is = c.inner_between-inner.ensures; count_is = c.strip_rows-n.ensures })
    c.args.wall.now c.args.out.now _ c.min-room.ensures c.if-room-n.false (search rules)
    _ _ c.raise_wall.ensures.raised (ap rows c.part.ensures ∙ rows_of_part _ _ _)
    _ _ c.close_rows.ensures.value c.close_rows.ensures.out_after in
    record { value = r.0; out_after = r.1 }
