-- Every point of each of the five kinds is finite and bounded, for parameters and sizes within the limits of a face record and somewhat beyond them.
use Rattle.std.proofs.Common.{◌≡◌, ◌+◌, ◌*◌, ◌^◌, true, T, subst, lit<, lit≤}
use lib.Ieee.{Float, nan}
use Rattle.numbers.specs.Frames.{y_of, polar_of}
use Rattle.numbers.specs.Rounded.{◌⊕◌, ◌⊗◌}
use Rattle.numbers.specs.Trig.{sincos_of, tan_of}
use Rattle.numbers.specs.Vectors.{plus_of, times_of}
use Rattle.numbers.specs.Within.{Within}
use Rattle.numbers.specs.declared.math.Frame.{Frame}
use Rattle.numbers.proofs.Fractions.{Under}
use Rattle.numbers.proofs.Magnitude.{held_small, div_within, add-pow, mul-pow, pow_more}
use Rattle.numbers.proofs.math.Frames.{In, Billion, Framed, in_more, plus_within, times_within, y_in, polar_in}
use Rattle.numbers.proofs.trig.Cosine.{cos_beyond}
use Rattle.numbers.proofs.trig.Sine.{sin_cos_one}
use Rattle.surfaces.specs.declared.surface.Surface.{Surface}
use Rattle.surfaces.specs.declared.surface.Surface.TheVariants.{Plane, Cylinder, Cone, Sphere, Torus}
use Rattle.surfaces.specs.Points.{plane_of, raised_of, sphere_of, torus_of, point_of}

-- sizes of a surface within the limits of the record, and well beyond them: lengths at most 2 ^ 22, the half angle at most 3 / 2
abbrev pub Sizes : Surface → Type 0
Sizes Plane = T true
Sizes (Cylinder R) = Within (2 ^ 22) R
Sizes (Cone R a) = Within (2 ^ 22) R × Under 3 2 a
Sizes (Sphere R) = Within (2 ^ 22) R
Sizes (Torus R r) = Within (2 ^ 22) R × Within (2 ^ 22) r

tan_within : (a : Float) → Under 3 2 a → Within (2 ^ 5) (tan_of a)
unfolding tan_of
tan_within a h = div_within 1 32 (sincos_of a).sin (sincos_of a).cos (held_small 32 (lit< tt)) (sin_cos_one a (λ e. subst (Under 3 2) e h)).0 (cos_beyond a h)

module _ (f : Frame) (w : Framed f) (u v : Float) (hu : Within (2 ^ 22) u) (hv : Within (2 ^ 22) v) where
  some_u : u ≡ nan → ⊥
  some_u e = subst (Within (2 ^ 22)) e hu

  some_v : v ≡ nan → ⊥
  some_v e = subst (Within (2 ^ 22)) e hv

  -- at the distance r from the axis and the height h
  raised : (r h : Float) → Within (2 ^ 28) r → Within (2 ^ 28) h → In (2 ^ 32) (raised_of f r u h)
  unfolding raised_of
  raised r h p q =
      let around = polar_in (2 ^ 28) f r u (lit< tt) w p some_u in
      let along = times_within 2 (2 ^ 28) f.axis h (lit< tt) w.at_axis q in
      in_more (Billion + 12 * 2 ^ 28) (2 ^ 32) (plus_of (polar_of f r u) (times_of f.axis h)) (lit≤ tt)
      (plus_within (Billion + 10 * 2 ^ 28) (2 * 2 ^ 28) (polar_of f r u) (times_of f.axis h) (lit< tt) around along)

  high : Within (2 ^ 28) v
  high = pow_more 22 28 v (lit≤ tt) hv

  plane_in : In (2 ^ 32) (plane_of f u v)
  unfolding plane_of
  plane_in =
      let along = times_within 2 (2 ^ 22) f.reference u (lit< tt) w.at_reference hu in
      let across = times_within 8 (2 ^ 22) (y_of f) v (lit< tt) (y_in f w) hv in
      in_more (Billion + 10 * 2 ^ 22) (2 ^ 32) (plus_of (plus_of f.origin (times_of f.reference u)) (times_of (y_of f) v)) (lit≤ tt)
      (plus_within (Billion + 2 * 2 ^ 22) (8 * 2 ^ 22) (plus_of f.origin (times_of f.reference u)) (times_of (y_of f) v) (lit< tt)
      (plus_within Billion (2 * 2 ^ 22) f.origin (times_of f.reference u) (lit< tt) w.at_origin along) across)

  cone_in : (R a : Float) → Within (2 ^ 22) R → Under 3 2 a → In (2 ^ 32) (raised_of f (R ⊕ v ⊗ tan_of a) u v)
  cone_in R a p q =
      raised (R ⊕ v ⊗ tan_of a) v (add-pow 27 R (v ⊗ tan_of a) (lit< tt) (pow_more 22 27 R (lit≤ tt) p) (mul-pow 22 5 v (tan_of a) (lit< tt) hv (tan_within a q))) high

  sphere_in : (R : Float) → Within (2 ^ 22) R → In (2 ^ 32) (sphere_of f R u v)
  unfolding sphere_of
  sphere_in R p =
      let b = sin_cos_one v some_v in
      raised (R ⊗ (sincos_of v).cos) (R ⊗ (sincos_of v).sin)
      (pow_more 22 28 (R ⊗ (sincos_of v).cos) (lit≤ tt) (mul-pow 22 0 R (sincos_of v).cos (lit< tt) p b.1))
      (pow_more 22 28 (R ⊗ (sincos_of v).sin) (lit≤ tt) (mul-pow 22 0 R (sincos_of v).sin (lit< tt) p b.0))

  torus_in : (R r : Float) → Within (2 ^ 22) R → Within (2 ^ 22) r → In (2 ^ 32) (torus_of f R r u v)
  unfolding torus_of
  torus_in R r p q =
      let b = sin_cos_one v some_v in
      raised (R ⊕ r ⊗ (sincos_of v).cos) (r ⊗ (sincos_of v).sin)
      (pow_more 23 28 (R ⊕ r ⊗ (sincos_of v).cos) (lit≤ tt) (add-pow 22 R (r ⊗ (sincos_of v).cos) (lit< tt) p (mul-pow 22 0 r (sincos_of v).cos (lit< tt) q b.1)))
      (pow_more 22 28 (r ⊗ (sincos_of v).sin) (lit≤ tt) (mul-pow 22 0 r (sincos_of v).sin (lit< tt) q b.0))

  pub point_in : (s : Surface) → Sizes s → In (2 ^ 32) (point_of f s u v)
  unfolding point_of
  point_in Plane z = plane_in
  point_in (Cylinder R) z = raised R v (pow_more 22 28 R (lit≤ tt) z) high
  point_in (Cone R a) z = cone_in R a z.0 z.1
  point_in (Sphere R) z = sphere_in R z
  point_in (Torus R r) z = torus_in R r z.0 z.1
