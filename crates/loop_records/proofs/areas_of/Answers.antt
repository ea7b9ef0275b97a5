use Rattle.std.proofs.Common.{rules, arith}
use Rattle.loop_records.specs.declared.LoopRecord.{LoopRecord}
use Rattle.loop_records.specs.Record.{no_loop}
use Rattle.loop_records.proofs.Columns.{column, column_put}
use Rattle.loop_records.proofs.areas_of.Goals as goal

pub returns : goal.returns
returns c =
    let all = column (λ (l : LoopRecord). l.area) c.args.loops _ c.map-all.ensures.items.long (omega arith)
    (λ i e h. let k = (c.map-all.ensures.items.at i no_loop e h).2 in search rules) in
    column_put (λ (l : LoopRecord). l.area) c.args.loops c.args.n _ _ _ _ all c.part.ensures c.copy_into.ensures
