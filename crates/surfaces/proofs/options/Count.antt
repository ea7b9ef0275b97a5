-- Which whole number a count of segments is: the quotient taken up, exactly, and how large it can be.
use Rattle.std.proofs.Common.{ℕ, ◌*◌, ◌≤◌, max, refl, arith, lit≤}
use lib.Ieee.{Float, of_bits}
use Rattle.numbers.specs.Constants.{10^-3}
use Rattle.numbers.specs.Order.{abs_of, min_of}
use Rattle.numbers.specs.Within.{Within, Held, Beyond, NonNeg}
use Rattle.numbers.proofs.rounding.Count.{step_count}
use Rattle.surfaces.specs.declared.options.Resolved.{Resolved}
use Rattle.surfaces.specs.Segments.{sag_angle, angle_step_of, segments_of}

milli_beyond : Beyond 1000 10^-3
unfolding of_bits
milli_beyond = lit≤ tt

milli_positive : NonNeg 10^-3
unfolding of_bits
milli_positive = refl

-- an arc of at most B radians has at most 1000 B segments, since no step is below 1e-3, unless more are asked for
pub segments-few : (B : ℕ) (o : Resolved) (r total : Float) → Held (B * 1000) → Within B total → segments_of o r total ≤ max (max (B * 1000) o.min_edge_segments) 1
unfolding segments_of angle_step_of
segments-few B o r total h w = at_most o.min_edge_segments (step_count B 1000 total (min_of (sag_angle o (abs_of r)) o.angle) 10^-3 h w milli_beyond milli_positive)
  where
    at_most : {n b : ℕ} (k : ℕ) → n ≤ b → max (max n k) 1 ≤ max (max b k) 1
    at_most k h = omega arith
