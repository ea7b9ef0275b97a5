-- A loop is a list of corners. A corner has its parameters u and v, and the position that it carries and that no step of a band changes.
use Rattle.std.specs.Prelude.{List, [], ◌∷◌, map, Float}
use Rattle.numbers.specs.declared.math.Vec2.{Vec2}
use Rattle.numbers.specs.declared.math.Vec3.{Vec3}

pub record Corner (A : Type 0) : Type 0 where
  pub u : Float
  pub v : Float
  pub at : A

abbrev pub Corners : Type 0 → Type 0
Corners A = List (Corner A)

module _ {A : Type 0} where
  abbrev pub us : Corners A → List Float
  us r = map (λ (c : Corner A). c.u) r

  abbrev pub vs : Corners A → List Float
  vs r = map (λ (c : Corner A). c.v) r

  abbrev pub positions : Corners A → List A
  positions r = map (λ (c : Corner A). c.at) r

  abbrev pub move_u : (Float → Float) → Corner A → Corner A
  move_u f c = record { u = f c.u; v = c.v; at = c.at }

  abbrev pub move_v : (Float → Float) → Corner A → Corner A
  move_v f c = record { u = c.u; v = f c.v; at = c.at }

  abbrev pub uv_of : Corner A → Vec2
  uv_of c = record { u = c.u; v = c.v }

  -- corners of which the u, the v and the positions are given
  unfoldable pub corners_from : List Float → List Float → List A → Corners A
  corners_from [] vs ps = []
  corners_from (u ∷ us) [] ps = []
  corners_from (u ∷ us) (v ∷ vs) [] = []
  corners_from (u ∷ us) (v ∷ vs) (p ∷ ps) = record { u = u; v = v; at = p } ∷ corners_from us vs ps

-- the coordinates, where the positions are points of space
abbrev pub xs : Corners Vec3 → List Float
xs r = map (λ (c : Corner Vec3). c.at.x) r

abbrev pub ys : Corners Vec3 → List Float
ys r = map (λ (c : Corner Vec3). c.at.y) r

abbrev pub zs : Corners Vec3 → List Float
zs r = map (λ (c : Corner Vec3). c.at.z) r
