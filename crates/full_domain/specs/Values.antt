-- A small torus, computed: radii 2 and 1, steps of at most 1.5; and whole surfaces of so many steps that their top division misses its end. Their step
-- counts are computed in `values`.
use Rattle.std.specs.Prelude.{◌≡◌, refl, length, get_or}
use Rattle.std.specs.Float.{nan}
use Rattle.std.specs.Float.Ieee.{of_bits, of_int, add, sub, mul, div, neg, lt, le, eq, ne, to_unsigned}
use Rattle.numbers.specs.Constants.{plus_zero, H, TAU}
use Rattle.numbers.specs.Order.{abs_of}
use Rattle.numbers.specs.Round.{ceil_of}
use Rattle.numbers.specs.Rounded.{◌⊘◌, count}
use Rattle.numbers.specs.Trig.{sincos_of}
use Rattle.surfaces.specs.declared.options.Resolved.{Resolved}
use Rattle.surfaces.specs.declared.surface.Surface.{Surface}
use Rattle.surfaces.specs.declared.surface.Surface.TheVariants.{Sphere, Torus}
use Rattle.surfaces.specs.Domains.{domain_of}
use Rattle.surfaces.specs.Rungs.{division, divisions_from, slack_of, near, kept_after, kept_divisions, ended_on, rungs}
use Rattle.surfaces.specs.Segments.{sag_angle, angle_step_of, segments_of}
use Rattle.surfaces.specs.Steps.{direction_steps_of}
use Rattle.full_domain.specs.Boundary.{corner, sides, sides_of, steps_of, rungs_of, whole_corners}

abbrev pub torus : Surface
torus = Torus (count 2) (count 1)

abbrev options : Resolved
options = record { sag = count 10; angle = count 3 ⊘ count 2; min_edge_segments = 1 }

-- five steps in each direction
twenty_corners : length (whole_corners torus options) ≡ 20
unfolding whole_corners sides_of sides rungs_of steps_of direction_steps_of segments_of angle_step_of sag_angle rungs ended_on kept_divisions kept_after near slack_of divisions_from division domain_of abs_of ceil_of add sub mul div neg lt le eq ne of_bits of_int to_unsigned
twenty_corners = refl

-- the first corner, and that where the second side begins
first-corner : get_or (whole_corners torus options) 0 (corner nan nan) ≡ corner plus_zero plus_zero
unfolding whole_corners sides_of sides rungs_of steps_of direction_steps_of segments_of angle_step_of sag_angle rungs ended_on kept_divisions kept_after near slack_of divisions_from division domain_of abs_of ceil_of add sub mul div neg lt le eq ne of_bits of_int to_unsigned
first-corner = refl

second-side : get_or (whole_corners torus options) 5 (corner nan nan) ≡ corner TAU plus_zero
unfolding whole_corners sides_of sides rungs_of steps_of direction_steps_of segments_of angle_step_of sag_angle rungs ended_on kept_divisions kept_after near slack_of divisions_from division domain_of abs_of ceil_of add sub mul div neg lt le eq ne of_bits of_int to_unsigned
second-side = refl

-- ---- 02, N2: 11 steps in each direction, of which the top division falls short of TAU

abbrev pub finer : Resolved
finer = record { sag = count 10; angle = count 3 ⊘ count 5; min_edge_segments = 1 }

forty_four-corners : length (whole_corners torus finer) ≡ 44
unfolding whole_corners sides_of sides rungs_of steps_of direction_steps_of segments_of angle_step_of sag_angle rungs ended_on kept_divisions kept_after near slack_of divisions_from division domain_of abs_of ceil_of add sub mul div neg lt le eq ne of_bits of_int to_unsigned
forty_four-corners = refl

-- where the third side begins, and the fourth
far-corner : get_or (whole_corners torus finer) 22 (corner nan nan) ≡ corner TAU TAU
unfolding whole_corners sides_of sides rungs_of steps_of direction_steps_of segments_of angle_step_of sag_angle rungs ended_on kept_divisions kept_after near slack_of divisions_from division domain_of abs_of ceil_of add sub mul div neg lt le eq ne of_bits of_int to_unsigned
far-corner = refl

fourth_side : get_or (whole_corners torus finer) 33 (corner nan nan) ≡ corner plus_zero TAU
unfolding whole_corners sides_of sides rungs_of steps_of direction_steps_of segments_of angle_step_of sag_angle rungs ended_on kept_divisions kept_after near slack_of divisions_from division domain_of abs_of ceil_of add sub mul div neg lt le eq ne of_bits of_int to_unsigned
fourth_side = refl

-- ---- a sphere of radius 1, 22 steps round and 11 up, of which the top division falls short of H

abbrev pub ball : Surface
ball = Sphere (count 1)

abbrev pub finest : Resolved
finest = record { sag = count 10; angle = count 29 ⊘ count 100; min_edge_segments = 1 }

sixty_six_corners : length (whole_corners ball finest) ≡ 66
unfolding whole_corners sides_of sides rungs_of steps_of direction_steps_of segments_of angle_step_of sag_angle rungs ended_on kept_divisions kept_after near slack_of divisions_from division domain_of sincos_of abs_of ceil_of add sub mul div neg lt le eq ne of_bits of_int to_unsigned
sixty_six_corners = refl

-- where the third side begins, and the fourth
pole-corner : get_or (whole_corners ball finest) 33 (corner nan nan) ≡ corner TAU H
unfolding whole_corners sides_of sides rungs_of steps_of direction_steps_of segments_of angle_step_of sag_angle rungs ended_on kept_divisions kept_after near slack_of divisions_from division domain_of sincos_of abs_of ceil_of add sub mul div neg lt le eq ne of_bits of_int to_unsigned
pole-corner = refl

pole-side : get_or (whole_corners ball finest) 55 (corner nan nan) ≡ corner plus_zero H
unfolding whole_corners sides_of sides rungs_of steps_of direction_steps_of segments_of angle_step_of sag_angle rungs ended_on kept_divisions kept_after near slack_of divisions_from division domain_of sincos_of abs_of ceil_of add sub mul div neg lt le eq ne of_bits of_int to_unsigned
pole-side = refl
