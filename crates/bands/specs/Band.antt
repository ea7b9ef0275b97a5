-- The band between two rings: which is lower, and the strip less its repeats. The sentences are those of 01, "Bands".
use Rattle.std.specs.Prelude.{Bool, cond, not, ◌&&◌, ◌||◌, List, map, Float, Option, Some, None}
use Rattle.std.specs.Float.Ieee.{lt}
use Rattle.numbers.specs.Rounded.{◌⊕◌}
use Rattle.loops.specs.Repeats.{drop_repeats}
use Rattle.loops.specs.Mean.{mean_of}
use Rattle.tables.specs.Corners.{Corner, Corners, vs, move_v}
use Rattle.bands.specs.Given.{Loop, Given}
use Rattle.bands.specs.Rings.{Face, laid, reseam, started}
use Rattle.bands.specs.Strip.{Setting, strip}

-- "Rings are ordered by mean v, equals as they stand; the torus swaps": whether the first ring is the lower one. `with₁` and `with₂` say whether the first
-- and the later ring go with the face. Where v comes round, the one that does is lower if the other does not.
unfoldable pub first_is_lower : Option Float → Bool → Bool → Float → Float → Bool
first_is_lower None with₁ with₂ mean₁ mean₂ = not (lt mean₂ mean₁)
first_is_lower (Some p) with₁ with₂ mean₁ mean₂ = cond (lt mean₂ mean₁) (not with₂ && with₁) (with₁ || not with₂)

-- "or lifts by travel": the upper ring's v, one period up where the band crosses v's seam
unfoldable pub lift : Option Float → Bool → Bool → Float → Float → Float → Float
lift None with_l with_u mean_l mean_u v = v
lift (Some p) with_l with_u mean_l mean_u v = cond (with_l && (not with_u && lt mean_u mean_l)) (v ⊕ p) v

module _ {A : Type 0} where
  abbrev pub pick : Bool → Face A → Corners A
  pick t face = cond t face.first face.later

  abbrev pub pick_loop : Bool → Given A → Loop A
  pick_loop t given = cond t given.first given.later

  abbrev pub mean_v : Corners A → Float
  mean_v r = mean_of (vs r)

module _ {A : Type 0} (S : Setting A) where
  -- whether a loop goes with the face: u rising, or falling where the face's sense is not the surface's; that the sense enters is the Rust's
  abbrev pub goes_with : Loop A → Bool
  goes_with l = cond S.sense (not l.falls) l.falls

  -- rings and holes as the strip takes them
  unfoldable pub joined : Given A → Face A
  joined given = started S.period (reseam S.period (laid S.period given))

  unfoldable pub lower_first : Given A → Bool
  lower_first given =
      let j = joined given in
      first_is_lower S.v_period (goes_with given.first) (goes_with given.later) (mean_v j.first) (mean_v j.later)

  -- the loops of the face record that become the lower and the upper ring
  abbrev pub lower : Given A → Loop A
  lower given = pick_loop (lower_first given) given

  abbrev pub upper : Given A → Loop A
  upper given = pick_loop (not (lower_first given)) given

  -- the strip's lower ring, and its upper ring, lifted
  unfoldable pub lower_ring : Given A → Corners A
  lower_ring given = pick (lower_first given) (joined given)

  unfoldable pub upper_ring : Given A → Corners A
  upper_ring given =
      let up = pick (not (lower_first given)) (joined given) in
      map (move_v (lift S.v_period (goes_with (lower given)) (goes_with (upper given)) (mean_v (lower_ring given)) (mean_v up))) up

  unfoldable pub strip_of : Given A → Corners A
  strip_of given = strip S (lower_ring given) (upper_ring given)

  -- "the band is the strip less the repeats of item 5"
  unfoldable pub outer : Given A → Corners A
  outer given = drop_repeats (λ (a b : Corner A). S.same a.at b.at) (strip_of given)

  unfoldable pub holes : Given A → List (Corners A)
  holes given = (joined given).holes
