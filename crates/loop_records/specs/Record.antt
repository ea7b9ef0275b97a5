-- 01, "Files, lowest first": "`UvLoop` inside a `Vec` becomes a lent list of loop records: start, count, wrap, travel, area".
use Rattle.std.specs.Prelude.{pos}
use Rattle.numbers.specs.Constants.{plus_zero}
use Rattle.loop_records.specs.declared.LoopRecord.{LoopRecord}

-- what stands where there is no loop
abbrev pub no_loop : LoopRecord
no_loop = record { start = 0; count = 0; wrap = pos 0; travel = pos 0; area = plus_zero }
