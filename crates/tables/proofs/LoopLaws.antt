-- The loops of a face: how many they are.
use Rattle.std.proofs.Common.{◌≡◌, length}
use Rattle.lists.proofs.Pieces.{length-pieces}
use Rattle.tables.specs.Rows.{rows}
use Rattle.tables.specs.Loops.{loops_in}
use Rattle.tables.specs.declared.loops.Loops.{Loops}
use Rattle.tables.specs.declared.corners.Corner.{Corner as Held}

pub loops_counted : (loops : Loops Held) → length (loops_in loops) ≡ length loops.counts.now
loops_counted loops = length-pieces loops.counts.now (rows loops.corners.now)
