-- The rings and the holes of a face, held in tables.
use Rattle.std.specs.Prelude.{ℕ, ◌+◌, min, Bool, cond, List, leb, ltb, Float, length}
use Rattle.numbers.specs.declared.math.Vec3.{Vec3}
use Rattle.lists.specs.Pieces.{pieces}
use Rattle.tables.specs.Corners.{Corners}
use Rattle.tables.specs.declared.corners.Corner.{Corner}
use Rattle.tables.specs.Rows.{rows}
use Rattle.bands.specs.Given.{Loop, Given}
use Rattle.bands.specs.Rings.{Face, reseam, started}

abbrev pub loop_in : List Corner → Bool → Loop Vec3
loop_in t falls = record { corners = rows t; falls = falls }

abbrev pub given_in : List Corner → List Corner → Bool → Bool → List (Corners Vec3) → Given Vec3
given_in first later first_falls later_falls holes = record { first = loop_in first first_falls; later = loop_in later later_falls; holes = holes }

-- the holes one behind the other in one table
abbrev pub face_in : List ℕ → List Corner → List Corner → List Corner → Face Vec3
face_in counts first later holes = record { first = rows first; later = rows later; holes = pieces counts (rows holes) }

-- `reseam` with n places for what the holes cover: where they are too few, nothing is done
unfoldable pub reseam_within : Float → List ℕ → ℕ → Face Vec3 → Face Vec3
reseam_within period counts n face = cond (leb (length counts) n) (reseam period face) face

abbrev pub rings_in : List Corner → List Corner → List (Corners Vec3) → Face Vec3
rings_in first later holes = record { first = rows first; later = rows later; holes = holes }

-- the room in five arrays: that of the shortest
abbrev pub room_in : List Float → List Float → List Float → List Float → List Float → ℕ
room_in u v x y z = min (min (length u) (length v)) (min (length x) (min (length y) (length z)))

-- "A trial is worked on a copy of 512 places", here of `room` places: where both rings do not fit, they stay
unfoldable pub started_within : Float → ℕ → Face Vec3 → Face Vec3
started_within period room face = cond (ltb room (length face.first + length face.later)) face (started period face)
