-- Vectors of three reals, as in the Rust (`math.rs`): each operation is rounded once, in the order written.
use Rattle.std.specs.Prelude.{cond, ◌&&◌, Option, Some, None, unwrap_or, Float}
use Rattle.std.specs.Float.Ieee.{lt}
use Rattle.std.specs.Float.Ieee.Scale.{finite}
use Rattle.numbers.specs.Constants.{plus_zero, one, shortest}
use Rattle.numbers.specs.Rounded.{◌⊕◌, ◌⊖◌, ◌⊗◌, ◌⊘◌}
use Rattle.numbers.specs.Order.{abs_of}
use Rattle.numbers.specs.Sqrt.{sqrt_of}
use Rattle.numbers.specs.declared.math.Vec3.{Vec3}

abbrev pub VX : Vec3
VX = record { x = one; y = plus_zero; z = plus_zero }

abbrev pub VY : Vec3
VY = record { x = plus_zero; y = one; z = plus_zero }

abbrev pub VZ : Vec3
VZ = record { x = plus_zero; y = plus_zero; z = one }

abbrev pub plus_of : Vec3 → Vec3 → Vec3
plus_of a b = record { x = a.x ⊕ b.x; y = a.y ⊕ b.y; z = a.z ⊕ b.z }

abbrev pub minus_of : Vec3 → Vec3 → Vec3
minus_of a b = record { x = a.x ⊖ b.x; y = a.y ⊖ b.y; z = a.z ⊖ b.z }

abbrev pub times_of : Vec3 → Float → Vec3
times_of a s = record { x = a.x ⊗ s; y = a.y ⊗ s; z = a.z ⊗ s }

abbrev pub dot_of : Vec3 → Vec3 → Float
dot_of a b = a.x ⊗ b.x ⊕ a.y ⊗ b.y ⊕ a.z ⊗ b.z

-- p * q - r * s
abbrev pub minor : Float → Float → Float → Float → Float
minor p q r s = p ⊗ q ⊖ r ⊗ s

abbrev pub cross_of : Vec3 → Vec3 → Vec3
cross_of a b = record { x = minor a.y b.z a.z b.y; y = minor a.z b.x a.x b.z; z = minor a.x b.y a.y b.x }

unfoldable pub length_of : Vec3 → Float
unfolding sqrt_of
length_of a = sqrt_of (dot_of a a)

-- a times 1 / length, where the length n is finite and above 2 ^ -511
abbrev pub direction_at : Float → Vec3 → Option Vec3
direction_at n a = cond (finite n && lt shortest n) (Some (times_of a (one ⊘ n))) None

unfoldable pub direction_of : Vec3 → Option Vec3
unfolding length_of
direction_of a = direction_at (length_of a) a

abbrev pub or_of : Option Vec3 → Vec3 → Vec3
or_of d f = unwrap_or d f

unfoldable pub normalized_or : Vec3 → Vec3 → Vec3
unfolding direction_of
normalized_or a f = or_of (direction_of a) f

-- the axis that a is least along: x where it is less than y and z, else the lesser of y and z, z of equals
abbrev pub lesser_at : Float → Float → Vec3
lesser_at y z = cond (lt y z) VY VZ

abbrev pub least_at : Float → Float → Float → Vec3
least_at x y z = cond (lt x y && lt x z) VX (lesser_at y z)

unfoldable pub least_axis : Vec3 → Vec3
unfolding abs_of
least_axis a = least_at (abs_of a.x) (abs_of a.y) (abs_of a.z)

unfoldable pub perpendicular_of : Vec3 → Vec3
unfolding least_axis normalized_or
perpendicular_of a = normalized_or (cross_of a (least_axis a)) VX
