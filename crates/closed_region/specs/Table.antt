-- The boxes of loops that are given by their u and their v.
use Rattle.std.specs.Prelude.{List, [], ◌∷◌, Float}
use Rattle.loops.specs.Span.{least_of, greatest_of}
use Rattle.closed_region.specs.declared.boxes.Bounds.{Bounds}

-- the box of a loop
abbrev pub box_of : List Float → List Float → Bounds
box_of us vs = record { ulo = least_of us; uhi = greatest_of us; vlo = least_of vs; vhi = greatest_of vs }

-- the box of each
unfoldable pub boxes_of : List (List Float) → List (List Float) → List Bounds
boxes_of [] vss = []
boxes_of (us ∷ uss) [] = []
boxes_of (us ∷ uss) (vs ∷ vss) = box_of us vs ∷ boxes_of uss vss
