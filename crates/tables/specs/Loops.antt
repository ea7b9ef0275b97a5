-- The loops of a face.
use Rattle.std.specs.Prelude.{List}
use Rattle.numbers.specs.declared.math.Vec3.{Vec3}
use Rattle.lists.specs.Pieces.{pieces}
use Rattle.tables.specs.Corners.{Corners}
use Rattle.tables.specs.Rows.{rows}
use Rattle.tables.specs.declared.corners.Corner.{Corner as Held}
use Rattle.tables.specs.declared.loops.Loops.{Loops}

-- a list of corners for each loop, where `rows_of` tells the rows of a table; of an iterator, for each that is still to come
abbrev pub loops_by : {R : Type 0} → (List R → Corners Vec3) → Loops R → List (Corners Vec3)
loops_by rows_of l = pieces l.counts.now (rows_of l.corners.now)

abbrev pub loops_in : Loops Held → List (Corners Vec3)
loops_in l = loops_by rows l
