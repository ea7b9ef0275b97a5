-- Frames made of an origin, an axis and a reference direction of at most 10^9 in size are bounded, whatever fallbacks they take.
use Rattle.std.proofs.Common.{◌≡◌, ℕ, suc, ◌+◌, ◌*◌, ◌^◌, ◌<◌, ◌≤◌, Bool, true, false, cond, ◌&&◌, Some, None, T, sym, refl, subst, arith, lit<, lit≤, pow_mono}
use lib.Ieee.{Float, nan, binary64, fits, div, lt, le, of_bits}
use lib.Ieee.Fits.{add-fits, mul-fits}
use lib.Ieee.Scale.{finite}
use Rattle.numbers.specs.Constants.{one, shortest}
use Rattle.numbers.specs.Order.{abs_of}
use Rattle.numbers.specs.Rounded.{◌⊕◌, ◌⊗◌, ◌⊘◌}
use Rattle.numbers.specs.Sqrt.{sqrt_of}
use Rattle.numbers.specs.Trig.{sincos_of}
use Rattle.numbers.specs.Vectors.{VX, VY, VZ, plus_of, minus_of, times_of, dot_of, cross_of, length_of, direction_of, minor, or_of, normalized_or, least_axis, perpendicular_of}
use Rattle.numbers.specs.Frames.{across_of, frame_at, frame_of, y_of, polar_of}
use Rattle.numbers.specs.Within.{Within, NonNeg, EachXyz}
use Rattle.numbers.specs.declared.math.Vec3.{Vec3}
use Rattle.numbers.specs.declared.math.Frame.{Frame}
use Rattle.numbers.proofs.Magnitude.{held_small, within_more, within_finite, add_within, mul_within, add-pow, sub-pow, mul-pow, pow_more}
use Rattle.numbers.proofs.Signed.{le_trans_float}
use Rattle.numbers.proofs.Squares.{square_nonneg, add_nonneg}
use Rattle.numbers.proofs.math.Unit.{add-above_left, add-above_right, part_within}
use Rattle.numbers.proofs.trig.Sine.{sin_cos_one}

-- each coordinate is at most B in size
abbrev pub In : ℕ → Vec3 → Type 0
In B v = EachXyz (Within B) v

pub in_more : (A B : ℕ) (v : Vec3) → A ≤ B → In A v → In B v
in_more A B v h w = record { x = within_more A B v.x h w.x; y = within_more A B v.y h w.y; z = within_more A B v.z h w.z }

in_pow : (j k : ℕ) (v : Vec3) → j ≤ k → In (2 ^ j) v → In (2 ^ k) v
in_pow j k v h w = in_more (2 ^ j) (2 ^ k) v (pow_mono h) w

-- ---- the operations, with powers of two

minus_in : (k : ℕ) (a b : Vec3) → suc k < 1024 → In (2 ^ k) a → In (2 ^ k) b → In (2 ^ suc k) (minus_of a b)
minus_in k a b h v w = record { x = sub-pow k a.x b.x h v.x w.x; y = sub-pow k a.y b.y h v.y w.y; z = sub-pow k a.z b.z h v.z w.z }

times_in : (j k : ℕ) (a : Vec3) (s : Float) → j + k < 1024 → In (2 ^ j) a → Within (2 ^ k) s → In (2 ^ (j + k)) (times_of a s)
times_in j k a s h v w = record { x = mul-pow j k a.x s h v.x w; y = mul-pow j k a.y s h v.y w; z = mul-pow j k a.z s h v.z w }

cross_in : (j k : ℕ) (a b : Vec3) → suc (j + k) < 1024 → In (2 ^ j) a → In (2 ^ k) b → In (2 ^ suc (j + k)) (cross_of a b)
cross_in j k a b h v w = record {
  x = minor_in a.y b.z a.z b.y v.y w.z v.z w.y;
  y = minor_in a.z b.x a.x b.z v.z w.x v.x w.z;
  z = minor_in a.x b.y a.y b.x v.x w.y v.y w.x;
}
  where
    minor_in : (p q r s : Float) → Within (2 ^ j) p → Within (2 ^ k) q → Within (2 ^ j) r → Within (2 ^ k) s → Within (2 ^ suc (j + k)) (minor p q r s)
    minor_in p q r s c d e f = sub-pow (j + k) (p ⊗ q) (r ⊗ s) h (mul-pow j k p q (omega arith) c d) (mul-pow j k r s (omega arith) e f)

dot_in : (j k : ℕ) (a b : Vec3) → suc (suc (j + k)) < 1024 → In (2 ^ j) a → In (2 ^ k) b → Within (2 ^ suc (suc (j + k))) (dot_of a b)
dot_in j k a b h v w =
    let X = a.x ⊗ b.x in
    let Y = a.y ⊗ b.y in
    let Z = a.z ⊗ b.z in
    add-pow (suc (j + k)) (X ⊕ Y) Z h
    (add-pow (j + k) X Y (omega arith) (mul-pow j k a.x b.x (omega arith) v.x w.x) (mul-pow j k a.y b.y (omega arith) v.y w.y))
    (pow_more (j + k) (suc (j + k)) Z (omega arith) (mul-pow j k a.z b.z (omega arith) v.z w.z))

-- ---- a vector divided by its length

-- a summand of a squared length
record Part (k : ℕ) (q : Float) : Type 0 where
  fit : T (fits binary64 q)
  most : Within (2 ^ k) q
  sign : NonNeg q

square_part : (t : Float) → Within (2 ^ 37) t → Part 74 (t ⊗ t)
square_part t w = record { fit = mul-fits binary64 t t; most = mul-pow 37 37 t t (lit< tt) w w; sign = square_nonneg (2 ^ 37) t w }

module _ (k : ℕ) (q r : Float) (p : Part k q) (s : Part k r) where
  sum_part : suc k < 1024 → Part (suc k) (q ⊕ r)
  sum_part h = record { fit = add-fits binary64 q r; most = add-pow k q r h p.most s.most; sign = add_nonneg q r p.sign s.sign }

  sum-above : T (le q (q ⊕ r)) × T (le r (q ⊕ r))
  sum-above =
      let finite-q = within_finite (2 ^ k) q p.most in
      let finite-r = within_finite (2 ^ k) r s.most in
      (add-above_left q r p.fit finite-q finite-r p.sign s.sign, add-above_right q r s.fit finite-q finite-r p.sign s.sign)

module _ (v : Vec3) (w : In (2 ^ 37) v) where
  abbrev X : Float
  X = v.x ⊗ v.x

  abbrev Y : Float
  Y = v.y ⊗ v.y

  abbrev Z : Float
  Z = v.z ⊗ v.z

  x_part : Part 74 X
  x_part = square_part v.x w.x

  y_part : Part 74 Y
  y_part = square_part v.y w.y

  z_part : Part 75 Z
  z_part = let s = square_part v.z w.z in record { fit = s.fit; most = pow_more 74 75 Z (lit≤ tt) s.most; sign = s.sign }

  xy_part : Part 75 (X ⊕ Y)
  xy_part = sum_part 74 X Y x_part y_part (lit< tt)

  whole_part : Part 76 (dot_of v v)
  whole_part = sum_part 75 (X ⊕ Y) Z xy_part z_part (lit< tt)

  -- the squared length is at least each square
  below : T (le (X ⊕ Y) (dot_of v v)) × T (le Z (dot_of v v))
  below = sum-above 75 (X ⊕ Y) Z xy_part z_part

  module _ (n : Float) (is : n ≡ sqrt_of (dot_of v v)) (long : lt shortest n ≡ true) (known : T (finite n)) where
    component : (t : Float) → Within (2 ^ 37) t → T (le (t ⊗ t) (dot_of v v)) → Within 2 (t ⊗ (one ⊘ n))
    component t m l = part_within t (dot_of v v) n m whole_part.fit (within_finite (2 ^ 76) (dot_of v v) whole_part.most) whole_part.sign l is long known

    unit_in : In 2 (times_of v (one ⊘ n))
    unit_in =
        let first = sum-above 74 X Y x_part y_part in
        record {
          x = component v.x w.x (le_trans_float X (X ⊕ Y) (dot_of v v) first.0 below.0);
          y = component v.y w.y (le_trans_float Y (X ⊕ Y) (dot_of v v) first.1 below.0);
          z = component v.z w.z below.1;
        }

normalized_in : (v f : Vec3) → In (2 ^ 37) v → In 2 f → In 2 (normalized_or v f)
unfolding normalized_or direction_of length_of
normalized_in v f w u = go (finite (sqrt_of (dot_of v v))) (lt shortest (sqrt_of (dot_of v v))) refl refl
  where
    go : (a b : Bool) → finite (sqrt_of (dot_of v v)) ≡ a → lt shortest (sqrt_of (dot_of v v)) ≡ b → In 2 (or_of (cond (a && b) (Some (times_of v (div binary64 one (sqrt_of (dot_of v v))))) None) f)
    go true true p q = unit_in v w (sqrt_of (dot_of v v)) refl q (subst T (sym p) tt)
    go true false p q = u
    go false b p q = u

-- ---- frames
unit-x : In (2 ^ 0) VX
unfolding of_bits
unit-x = record { x = lit≤ tt; y = lit≤ tt; z = lit≤ tt }

unit-y : In (2 ^ 0) VY
unfolding of_bits
unit-y = record { x = lit≤ tt; y = lit≤ tt; z = lit≤ tt }

unit-z : In (2 ^ 0) VZ
unfolding of_bits
unit-z = record { x = lit≤ tt; y = lit≤ tt; z = lit≤ tt }

least_in : (a : Vec3) → In (2 ^ 0) (least_axis a)
unfolding least_axis
least_in a = go (lt (abs_of a.x) (abs_of a.y) && lt (abs_of a.x) (abs_of a.z)) (lt (abs_of a.y) (abs_of a.z))
  where
    go : (p q : Bool) → In (2 ^ 0) (cond p VX (cond q VY VZ))
    go true q = unit-x
    go false true = unit-y
    go false false = unit-z

perpendicular_in : (z : Vec3) → In 2 z → In 2 (perpendicular_of z)
unfolding perpendicular_of
perpendicular_in z w = normalized_in (cross_of z (least_axis z)) VX (in_pow 2 37 (cross_of z (least_axis z)) (lit≤ tt) (cross_in 1 0 z (least_axis z) (lit< tt) w (least_in z))) (in_more 1 2 VX (lit≤ tt) unit-x)

abbrev pub Billion : ℕ
Billion = 1000000000

pub record Framed (f : Frame) : Type 0 where
  pub at_origin : In Billion f.origin
  pub at_axis : In 2 f.axis
  pub at_reference : In 2 f.reference

across_in : (r z : Vec3) → In (2 ^ 30) r → In (2 ^ 1) z → In (2 ^ 37) (across_of r z)
across_in r z v w =
    in_pow 35 37 (across_of r z) (lit≤ tt)
    (minus_in 34 r (times_of z (dot_of r z)) (lit< tt) (in_pow 30 34 r (lit≤ tt) v) (times_in 1 33 z (dot_of r z) (lit< tt) w (dot_in 30 1 r z (lit< tt) v w)))

at_in : (o z r : Vec3) → In Billion o → In 2 z → In (2 ^ 30) r → Framed (frame_at o z r)
at_in o z r p q s = record { at_origin = p; at_axis = q; at_reference = normalized_in (across_of r z) (perpendicular_of z) (across_in r z s q) (perpendicular_in z q) }

pub frame_in_lem : (o a r : Vec3) → In Billion o → In Billion a → In Billion r → Framed (frame_of o a r)
unfolding frame_of
frame_in_lem o a r p q s =
    at_in o (normalized_or a VZ) r p (normalized_in a VZ (in_more Billion (2 ^ 37) a (lit≤ tt) q) (in_more 1 2 VZ (lit≤ tt) unit-z)) (in_more Billion (2 ^ 30) r (lit≤ tt) s)

pub y_in : (f : Frame) → Framed f → In 8 (y_of f)
y_in f w = cross_in 1 1 f.axis f.reference (lit< tt) w.at_axis w.at_reference

-- ---- points, with bounds that are any numbers below 2 ^ 53

pub plus_within : (A B : ℕ) (a b : Vec3) → A + B < 2 ^ 53 → In A a → In B b → In (A + B) (plus_of a b)
plus_within A B a b h v w =
    let held = held_small (A + B) h in
    record { x = add_within A B a.x b.x held v.x w.x; y = add_within A B a.y b.y held v.y w.y; z = add_within A B a.z b.z held v.z w.z }

pub times_within : (A B : ℕ) (a : Vec3) (s : Float) → A * B < 2 ^ 53 → In A a → Within B s → In (A * B) (times_of a s)
times_within A B a s h v w =
    let held = held_small (A * B) h in
    record { x = mul_within A B a.x s held v.x w; y = mul_within A B a.y s held v.y w; z = mul_within A B a.z s held v.z w }

-- around the axis, at a distance of at most R from it; t is any number, or an infinity
pub polar_in : (R : ℕ) (f : Frame) (r t : Float) → R < 2 ^ 49 → Framed f → Within R r → (t ≡ nan → ⊥) → In (Billion + 2 * R + 8 * R) (polar_of f r t)
unfolding polar_of
polar_in R f r t few w p some =
    let b = sin_cos_one t some in
    let along : Vec3 = times_of f.reference (r ⊗ (sincos_of t).cos) in
    let across : Vec3 = times_of (y_of f) (r ⊗ (sincos_of t).sin) in
    let held = held_small (R * 1) (omega arith) in
    let cos-in : Within R (r ⊗ (sincos_of t).cos) = within_more (R * 1) R (r ⊗ (sincos_of t).cos) (omega arith) (mul_within R 1 r (sincos_of t).cos held p b.1) in
    let sin-in : Within R (r ⊗ (sincos_of t).sin) = within_more (R * 1) R (r ⊗ (sincos_of t).sin) (omega arith) (mul_within R 1 r (sincos_of t).sin held p b.0) in
    plus_within (Billion + 2 * R) (8 * R) (plus_of f.origin along) across (omega arith)
    (plus_within Billion (2 * R) f.origin along (omega arith) w.at_origin (times_within 2 R f.reference (r ⊗ (sincos_of t).cos) (omega arith) w.at_reference cos-in))
    (times_within 8 R (y_of f) (r ⊗ (sincos_of t).sin) (omega arith) (y_in f w) sin-in)
