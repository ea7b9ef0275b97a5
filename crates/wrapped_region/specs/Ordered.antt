-- Two rings in their order: 01, "Bands": "Rings are ordered by mean v, equals as they stand; the torus swaps or lifts by travel."
use Rattle.std.specs.Prelude.{Bool, cond, not, ◌&&◌, map, Float, Option, Some, None}
use Rattle.std.specs.Float.Ieee.{lt}
use Rattle.numbers.specs.Rounded.{◌⊕◌}
use Rattle.numbers.specs.declared.math.Vec3.{Vec3}
use Rattle.tables.specs.Corners.{Corners, move_v}
use Rattle.bands.specs.Rings.{Face}
use Rattle.bands.specs.Strip.{Setting}
use Rattle.bands.specs.Band.{first_is_lower, lift, mean_v, pick}

-- the lift of 01 in two parts: whether the band crosses v's seam, and the step up if it does
unfoldable pub crosses : Bool → Bool → Float → Float → Bool
crosses with_l with_u mean_l mean_u = with_l && (not with_u && lt mean_u mean_l)

unfoldable pub lifted_by : Option Float → Bool → Float → Float
lifted_by None t v = v
lifted_by (Some p) t v = cond t (v ⊕ p) v

-- with₁ and with₂ say whether the first and the later ring go with the face
module _ (S : Setting Vec3) (with₁ with₂ : Bool) (face : Face Vec3) where
  unfoldable pub first_lower : Bool
  first_lower = first_is_lower S.v_period with₁ with₂ (mean_v face.first) (mean_v face.later)

  unfoldable pub lower_of : Corners Vec3
  lower_of = pick first_lower face

  unfoldable pub upper_of : Corners Vec3
  upper_of =
      let up = pick (not first_lower) face in
      map (move_v (lift S.v_period (cond first_lower with₁ with₂) (cond (not first_lower) with₁ with₂) (mean_v lower_of) (mean_v up))) up
