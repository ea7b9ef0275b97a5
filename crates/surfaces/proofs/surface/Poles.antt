-- At the two ends of a sphere's v all points are one as numbers: cos is a zero there, so each coordinate is the origin's plus zeros, plus the height along the axis.
use Rattle.std.proofs.Common.{◌≡◌, ◌^◌, true, false, refl, subst, inl}
use lib.Ieee.{Float, nan, add, sub, mul, div, neg, eq, lt, of_bits, of_int}
use Rattle.numbers.specs.Constants.{H}
use Rattle.numbers.specs.Frames.{y_of, polar_of}
use Rattle.numbers.specs.Position.{same}
use Rattle.numbers.specs.Rounded.{◌⊕◌, ◌⊗◌}
use Rattle.numbers.specs.Trig.{sincos_of}
use Rattle.numbers.specs.Within.{Within}
use Rattle.numbers.specs.declared.math.Frame.{Frame}
use Rattle.numbers.proofs.Equality.{and_both}
use Rattle.numbers.proofs.Magnitude.{within_finite}
use Rattle.numbers.proofs.Zeros.{IsNil, as_one-eq, times_nil, nil_times, plus_nils, plus_as_one}
use Rattle.numbers.proofs.math.Frames.{Framed, y_in}
use Rattle.numbers.proofs.trig.Sine.{sin_cos_one}
use Rattle.surfaces.specs.declared.surface.Surface.TheVariants.{Sphere}
use Rattle.surfaces.specs.Points.{raised_of, sphere_of, point_of}
use Rattle.surfaces.proofs.surface.Points.{point_in}

pub upper-pole : IsNil (sincos_of H).cos
unfolding sincos_of add sub mul div neg lt of_bits of_int
upper-pole = (true, refl)

pub lower-pole : IsNil (sincos_of (neg H)).cos
unfolding sincos_of add sub mul div neg lt of_bits of_int
lower-pole = (false, refl)

module _ (f : Frame) (w : Framed f) (R v : Float) (size : Within (2 ^ 22) R) (hv : Within (2 ^ 22) v) (pole : IsNil (sincos_of v).cos) where
  around : IsNil (R ⊗ (sincos_of v).cos)
  around = times_nil R (sincos_of v).cos (within_finite (2 ^ 22) R size) pole

  module _ (u : Float) (hu : Within (2 ^ 22) u) where
    some : u ≡ nan → ⊥
    some e = subst (Within (2 ^ 22)) e hu

    along-x : IsNil (R ⊗ (sincos_of v).cos ⊗ (sincos_of u).cos)
    along-x = nil_times (R ⊗ (sincos_of v).cos) (sincos_of u).cos around (within_finite 1 (sincos_of u).cos (sin_cos_one u some).1)

    along-y : IsNil (R ⊗ (sincos_of v).cos ⊗ (sincos_of u).sin)
    along-y = nil_times (R ⊗ (sincos_of v).cos) (sincos_of u).sin around (within_finite 1 (sincos_of u).sin (sin_cos_one u some).0)

  -- a coordinate at u: o that of the origin, x and y those of the directions across the axis, a that of the axis
  abbrev coordinate : Float → Float → Float → Float → Float → Float
  coordinate o x y a u = o ⊕ x ⊗ (R ⊗ (sincos_of v).cos ⊗ (sincos_of u).cos) ⊕ y ⊗ (R ⊗ (sincos_of v).cos ⊗ (sincos_of u).sin) ⊕ a ⊗ (R ⊗ (sincos_of v).sin)

  module _ (u u' : Float) (hu : Within (2 ^ 22) u) (hu' : Within (2 ^ 22) u') where
    coordinate_eq : (o x y a : Float) → Within 2 x → Within 8 y → Within (2 ^ 32) (coordinate o x y a u)
        → eq (coordinate o x y a u) (coordinate o x y a u') ≡ true
    coordinate_eq o x y a wx wy h =
        let r = R ⊗ (sincos_of v).cos in
        let c = (sincos_of u).cos in
        let s = (sincos_of u).sin in
        let c' = (sincos_of u').cos in
        let s' = (sincos_of u').sin in
        let fx = within_finite 2 x wx in
        let fy = within_finite 8 y wy in
        let before = o ⊕ x ⊗ (r ⊗ c) in
        let before' = o ⊕ x ⊗ (r ⊗ c') in
        let at_x = plus_nils o o (x ⊗ (r ⊗ c)) (x ⊗ (r ⊗ c')) (times_nil x (r ⊗ c) fx (along-x u hu)) (times_nil x (r ⊗ c') fx (along-x u' hu')) (inl refl) in
        let at_y = plus_nils before before' (y ⊗ (r ⊗ s)) (y ⊗ (r ⊗ s')) (times_nil y (r ⊗ s) fy (along-y u hu)) (times_nil y (r ⊗ s') fy (along-y u' hu')) at_x in
        as_one-eq (coordinate o x y a u) (coordinate o x y a u') (within_finite (2 ^ 32) (coordinate o x y a u) h)
        (plus_as_one (before ⊕ y ⊗ (r ⊗ s)) (before' ⊕ y ⊗ (r ⊗ s')) (a ⊗ (R ⊗ (sincos_of v).sin)) at_y)

    pub pole-same : same (point_of f (Sphere R) u v) (point_of f (Sphere R) u' v) ≡ true
    unfolding same point_of sphere_of raised_of polar_of
    pole-same =
        let p = point_in f w u v hu hv (Sphere R) size in
        let y = y_in f w in
        let at_x = coordinate_eq f.origin.x f.reference.x (y_of f).x f.axis.x w.at_reference.x y.x p.x in
        let at_y = coordinate_eq f.origin.y f.reference.y (y_of f).y f.axis.y w.at_reference.y y.y p.y in
        let at_z = coordinate_eq f.origin.z f.reference.z (y_of f).z f.axis.z w.at_reference.z y.z p.z in
        and_both _ _ (and_both _ _ at_x at_y) at_z
