-- Tables of reals, four to a box: its ends in u, and in v.
use Rattle.std.specs.Prelude.{List, [], ◌∷◌, Float}
use Rattle.closed_region.specs.declared.boxes.Bounds.{Bounds}

-- the boxes of the whole rows; what stands behind the last whole row is no row
unfoldable pub boxes_of : List Float → List Bounds
boxes_of [] = []
boxes_of (ulo ∷ []) = []
boxes_of (ulo ∷ uhi ∷ []) = []
boxes_of (ulo ∷ uhi ∷ vlo ∷ []) = []
boxes_of (ulo ∷ uhi ∷ vlo ∷ vhi ∷ rest) = record { ulo = ulo; uhi = uhi; vlo = vlo; vhi = vhi } ∷ boxes_of rest

-- what stands behind the last whole row
unfoldable pub rest_of : List Float → List Float
rest_of [] = []
rest_of (ulo ∷ []) = ulo ∷ []
rest_of (ulo ∷ uhi ∷ []) = ulo ∷ uhi ∷ []
rest_of (ulo ∷ uhi ∷ vlo ∷ []) = ulo ∷ uhi ∷ vlo ∷ []
rest_of (ulo ∷ uhi ∷ vlo ∷ vhi ∷ rest) = rest_of rest

-- the reals of boxes, row by row
unfoldable pub reals_of : List Bounds → List Float
reals_of [] = []
reals_of (b ∷ bs) = b.ulo ∷ b.uhi ∷ b.vlo ∷ b.vhi ∷ reals_of bs
