-- Tables of reals, five to a corner: u, v, x, y, z.
use Rattle.std.specs.Prelude.{List, [], ◌∷◌, Float}
use Rattle.tables.specs.declared.corners.Corner.{Corner}

-- the corners of the whole rows; what stands behind the last whole row is no row
unfoldable pub corners_of : List Float → List Corner
corners_of [] = []
corners_of (u ∷ []) = []
corners_of (u ∷ v ∷ []) = []
corners_of (u ∷ v ∷ x ∷ []) = []
corners_of (u ∷ v ∷ x ∷ y ∷ []) = []
corners_of (u ∷ v ∷ x ∷ y ∷ z ∷ rest) = record { u = u; v = v; at = record { x = x; y = y; z = z } } ∷ corners_of rest

-- what stands behind the last whole row
unfoldable pub rest_of : List Float → List Float
rest_of [] = []
rest_of (u ∷ []) = u ∷ []
rest_of (u ∷ v ∷ []) = u ∷ v ∷ []
rest_of (u ∷ v ∷ x ∷ []) = u ∷ v ∷ x ∷ []
rest_of (u ∷ v ∷ x ∷ y ∷ []) = u ∷ v ∷ x ∷ y ∷ []
rest_of (u ∷ v ∷ x ∷ y ∷ z ∷ rest) = rest_of rest

-- the reals of corners, row by row
unfoldable pub reals_of : List Corner → List Float
reals_of [] = []
reals_of (c ∷ cs) = c.u ∷ c.v ∷ c.at.x ∷ c.at.y ∷ c.at.z ∷ reals_of cs
