-- Corners put together from five lists: a table's columns, each in a list of its own.
use Rattle.std.specs.Prelude.{◌≡◌, List, [], ◌∷◌, Float}
use Rattle.numbers.specs.declared.math.Vec3.{Vec3}
use Rattle.tables.specs.Corners.{Corner, Corners}
use Rattle.tables.specs.Rows.{corner_of}
use Rattle.tables.specs.declared.corners.Corner.{Corner as Held}

-- whatever a call gives of a corner, by what is known of the call, is what `of` reads of it
abbrev pub Reads : (Held → Float → Type 0) → (Corner Vec3 → Float) → Type 0
Reads post of = (c : Held) (x : Float) → post c x → x ≡ of (corner_of c)

-- as many corners as the shortest list has elements
unfoldable pub corners_of : List Float → List Float → List Float → List Float → List Float → Corners Vec3
corners_of (u ∷ us) (v ∷ vs) (x ∷ xs) (y ∷ ys) (z ∷ zs) = record { u = u; v = v; at = record { x = x; y = y; z = z } } ∷ corners_of us vs xs ys zs
corners_of [] vs xs ys zs = []
corners_of (u ∷ us) [] xs ys zs = []
corners_of (u ∷ us) (v ∷ vs) [] ys zs = []
corners_of (u ∷ us) (v ∷ vs) (x ∷ xs) [] zs = []
corners_of (u ∷ us) (v ∷ vs) (x ∷ xs) (y ∷ ys) [] = []
