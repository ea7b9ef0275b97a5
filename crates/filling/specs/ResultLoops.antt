-- What is lent before a face is closed into it: zeros alone.
use Rattle.std.specs.Prelude.{replicate}
use Rattle.numbers.specs.Constants.{plus_zero}
use Rattle.tables.specs.declared.corners.Corner.{Corner as Held}
use Rattle.filling.specs.declared.result_loops.ResultLoops.{ResultLoops}

abbrev pub origin : Held
origin = record { u = plus_zero; v = plus_zero; at = record { x = plus_zero; y = plus_zero; z = plus_zero } }

abbrev pub nothing_held : ResultLoops
nothing_held = record { corners = replicate 1536 origin; counts = replicate 16 0; areas = replicate 16 plus_zero }
