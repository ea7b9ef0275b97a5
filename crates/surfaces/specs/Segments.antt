-- The tolerances, and how many segments they give an arc, as `options.rs` has them. Each operation is rounded once, in the order written.
use Rattle.std.specs.Prelude.{ℕ, max, cond, from_bits, Float}
use Rattle.std.specs.Float.{binary64}
use Rattle.std.specs.Float.Ieee.{neg, lt, to_unsigned}
use Rattle.numbers.specs.Constants.{one, 10^-3}
use Rattle.numbers.specs.Rounded.{◌⊖◌, ◌⊗◌, ◌⊘◌}
use Rattle.numbers.specs.Order.{abs_of, min_of, max_of}
use Rattle.numbers.specs.Round.{ceil_of}
use Rattle.numbers.specs.Trig.{acos_of}
use Rattle.surfaces.specs.declared.options.Resolved.{Resolved}

abbrev pub two : Float
two = from_bits binary64 0x4000_0000_0000_0000

abbrev pub clamp_of : Float → Float → Float → Float
clamp_of x lo hi = cond (lt x lo) lo (cond (lt hi x) hi x)

-- A chord of the angle t on the radius r leaves its arc by r (1 - cos (t / 2)). That is the sag at 2 acos (1 - sag / r). A circle within the sag has the angular limit alone.
unfoldable pub sag_angle : Resolved → Float → Float
sag_angle o r = let angle = two ⊗ acos_of (clamp_of (one ⊖ o.sag ⊘ r) (neg one) one) in cond (lt o.sag r) angle o.angle

-- within the sag and the angular limit, and no less than 1e-3
unfoldable pub angle_step_of : Resolved → Float → Float
angle_step_of o r = max_of (min_of (sag_angle o (abs_of r)) o.angle) 10^-3

-- the whole number of steps that `total` takes, taken up; `to_unsigned 64` is Rust's `as usize`
unfoldable pub segments_of : Resolved → Float → Float → ℕ
segments_of o r total = max (max (to_unsigned 64 (ceil_of (abs_of total ⊘ angle_step_of o r))) o.min_edge_segments) 1
