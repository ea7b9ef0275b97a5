use Rattle.std.proofs.Common.{ap, ◌∙◌, arith, get_or}
use Rattle.lists.proofs.Mapping.{mapping_turn, mapping_end}
use Rattle.tables.specs.Moves.{moved_by}
use Rattle.tables.specs.Rows.{rows}
use Rattle.tables.proofs.Rows.{absent, put-v, rows-each-v}
use Rattle.tables.proofs.moves.move_v.Goals as goal

pub loop-c-preserved : goal.loop-c-preserved
loop-c-preserved c = mapping_turn _ _ absent _ _ _ c.loop-c.invariant (omega arith)
    (put-v (moved_by c.args.m) (get_or c.loop-c.c-items c.loop-c.c-index absent) _ c.moved-c.ensures)

pub returns : goal.returns
returns c = ap rows (mapping_end _ _ _ _ c.loop-c.invariant (omega arith)) ∙ rows-each-v _ _
