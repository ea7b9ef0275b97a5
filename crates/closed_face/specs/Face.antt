-- The closed path of 01, "Closed faces", from a table of loops to the table of its result.
use Rattle.std.specs.Prelude.{ℕ, ◌≤◌, ◌<◌, ◌≡◌, List, map, Float, length, take}
use Rattle.numbers.specs.declared.math.Vec3.{Vec3}
use Rattle.lists.specs.Pieces.{pieces}
use Rattle.tables.specs.Corners.{Corners}
use Rattle.closed_region.specs.Loops.{area_in}
use Rattle.closed_region.specs.Region.{outer_among}
use Rattle.closed_region.specs.Holes.{rephased_rows, rephased_areas}

-- the loops of a face stand one behind the other in its rows, as many in each as the counts say
module _ (counts : List ℕ) (rows : Corners Vec3) (areas : List Float) (room : ℕ) where
  -- the number of the outer loop, with room for so many boxes
  abbrev pub outer_found : ℕ
  outer_found = outer_among (pieces counts rows) areas room

  module _ (uperiod vperiod : Float) where
    -- the rows and the areas once the holes are moved
    abbrev pub rows_then : Corners Vec3
    rows_then = rephased_rows outer_found uperiod vperiod (pieces counts rows) areas rows

    abbrev pub areas_left : List Float
    areas_left = rephased_areas outer_found uperiod vperiod (pieces counts rows) areas

-- a face: some loops, of as many rows each as the counts say, the area of each, and room for a box each
pub record IsFace (counts : List ℕ) (rows : Corners Vec3) (areas : List Float) (room : ℕ) : Type 0 where
  pub some : 0 < length counts
  pub whole : counts ≡ map length (pieces counts rows)
  pub an_area_each : length counts ≤ length areas
  pub measured : take (length counts) areas ≡ map area_in (pieces counts rows)
  pub a_box_each : length counts ≤ room
