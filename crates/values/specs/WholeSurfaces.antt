-- 02, N2, computed: the torus of 11 by 11 steps and the sphere of 22 by 11 (`full_domain`, Values.antt), a pair of positions of each, now, and one before that request.
use Rattle.std.specs.Prelude.{◌≡◌, refl, map, pos, Float}
use Rattle.std.specs.Float.Ieee.{of_bits, of_int, add, sub, mul, div, neg, lt, le, eq, ne, to_unsigned}
use Rattle.numbers.specs.Constants.{plus_zero, H, TAU}
use Rattle.numbers.specs.Frames.{polar_of}
use Rattle.numbers.specs.Order.{abs_of}
use Rattle.numbers.specs.Position.{same}
use Rattle.numbers.specs.Round.{ceil_of}
use Rattle.numbers.specs.Rounded.{count}
use Rattle.numbers.specs.Trig.{sincos_of}
use Rattle.numbers.specs.declared.math.Frame.{Frame}
use Rattle.numbers.specs.declared.math.Vec3.{Vec3}
use Rattle.surfaces.specs.Domains.{between, full_turn, u_period, v_period, domain_of}
use Rattle.surfaces.specs.Points.{raised_of, sphere_of, torus_of, point_of}
use Rattle.surfaces.specs.Rungs.{division, divisions_from, slack_of, near, kept_after, kept_divisions, ended_on, rungs}
use Rattle.surfaces.specs.Segments.{sag_angle, angle_step_of, segments_of}
use Rattle.surfaces.specs.Steps.{direction_steps_of}
use Rattle.loops.specs.Steps.{net, net_of, count as counted, steps_round, steps_along}
use Rattle.full_domain.specs.Boundary.{corner, sides, sides_of, steps_of, rungs_of, whole_corners, wrap_of, position_of, whole_positions}
use Rattle.full_domain.specs.Values.{torus, finer, ball, finest}

abbrev upright : Frame
upright = record {
  origin = record { x = plus_zero; y = plus_zero; z = plus_zero };
  axis = record { x = plus_zero; y = plus_zero; z = count 1 };
  reference = record { x = count 1; y = plus_zero; z = plus_zero };
}

abbrev on_torus : Float → Float → Vec3
on_torus u v = position_of torus upright (corner u v)

-- the last rung but one on the second side, and the far corner
abbrev below : Vec3
below = on_torus TAU (division plus_zero TAU 11 10)

abbrev far_corner : Vec3
far_corner = on_torus TAU TAU

-- Up the second side one step leads to the far corner, and down the fourth one comes back.
torus_there : counted same below far_corner (steps_round (whole_positions torus upright finer)) ≡ 1
unfolding counted steps_round steps_along same position_of wrap_of whole_positions point_of torus_of raised_of polar_of sincos_of u_period v_period whole_corners sides_of sides rungs_of steps_of direction_steps_of segments_of angle_step_of sag_angle rungs ended_on kept_divisions kept_after near slack_of divisions_from division domain_of abs_of ceil_of add sub mul div neg lt le eq ne of_bits of_int to_unsigned
torus_there = refl

torus-back : counted same far_corner below (steps_round (whole_positions torus upright finer)) ≡ 1
unfolding counted steps_round steps_along same position_of wrap_of whole_positions point_of torus_of raised_of polar_of sincos_of u_period v_period whole_corners sides_of sides rungs_of steps_of direction_steps_of segments_of angle_step_of sag_angle rungs ended_on kept_divisions kept_after near slack_of divisions_from division domain_of abs_of ceil_of add sub mul div neg lt le eq ne of_bits of_int to_unsigned
torus-back = refl

-- With the divisions kept for rungs, as before N2, that step ends beside the corner, at the top division, and none comes back.
torus_gap : net same below (on_torus (division plus_zero TAU 11 11) TAU)
    (map (position_of torus upright) (sides (kept_divisions plus_zero TAU 11) (kept_divisions plus_zero TAU 11) full_turn full_turn))
    ≡ pos 1
unfolding net net_of counted steps_round steps_along same position_of wrap_of point_of torus_of raised_of polar_of sincos_of u_period v_period sides kept_divisions kept_after near slack_of divisions_from division domain_of abs_of add sub mul div neg lt le eq ne of_bits of_int
torus_gap = refl

-- ---- the sphere

abbrev on_ball : Float → Float → Vec3
on_ball u v = position_of ball upright (corner u v)

-- the last rung but one under the pole, and the pole
abbrev under : Vec3
under = on_ball TAU (division (neg H) H 11 10)

abbrev pole : Vec3
pole = on_ball TAU H

-- up to the pole, round it in one place, and down again
ball_there : counted same under pole (steps_round (whole_positions ball upright finest)) ≡ 1
unfolding counted steps_round steps_along same position_of wrap_of whole_positions point_of sphere_of raised_of polar_of sincos_of u_period v_period whole_corners sides_of sides rungs_of steps_of direction_steps_of segments_of angle_step_of sag_angle rungs ended_on kept_divisions kept_after near slack_of divisions_from division domain_of abs_of ceil_of add sub mul div neg lt le eq ne of_bits of_int to_unsigned
ball_there = refl

ball-back : counted same pole under (steps_round (whole_positions ball upright finest)) ≡ 1
unfolding counted steps_round steps_along same position_of wrap_of whole_positions point_of sphere_of raised_of polar_of sincos_of u_period v_period whole_corners sides_of sides rungs_of steps_of direction_steps_of segments_of angle_step_of sag_angle rungs ended_on kept_divisions kept_after near slack_of divisions_from division domain_of abs_of ceil_of add sub mul div neg lt le eq ne of_bits of_int to_unsigned
ball-back = refl

-- before N2 the way down began beside the pole, so that none came back
ball_gap : net same under pole
    (map (position_of ball upright) (sides (kept_divisions plus_zero TAU 22) (kept_divisions (neg H) H 11) full_turn (between (neg H) H)))
    ≡ pos 1
unfolding net net_of counted steps_round steps_along same position_of wrap_of point_of sphere_of raised_of polar_of sincos_of u_period v_period sides kept_divisions kept_after near slack_of divisions_from division domain_of abs_of add sub mul div neg lt le eq ne of_bits of_int
ball_gap = refl
