-- Positions that are one as numbers: symmetric, transitive, and reflexive where no coordinate is a NaN.
use Rattle.std.proofs.Common.{◌≡◌, true, ◌&&◌}
use lib.Ieee.{eq}
use Rattle.numbers.specs.declared.math.Vec3.{Vec3}
use Rattle.numbers.specs.Position.{same}
use Rattle.numbers.proofs.Equality.{and_both, and_left, and_right, eq_sym, eq_trans}

record Same (a b : Vec3) : Type 0 where
  at_x : eq a.x b.x ≡ true
  at_y : eq a.y b.y ≡ true
  at_z : eq a.z b.z ≡ true

same_of : (a b : Vec3) → same a b ≡ true → Same a b
unfolding same
same_of a b h =
    let xy = and_left (eq a.x b.x && eq a.y b.y) (eq a.z b.z) h in
    record {
      at_x = and_left (eq a.x b.x) (eq a.y b.y) xy;
      at_y = and_right (eq a.x b.x) (eq a.y b.y) xy;
      at_z = and_right (eq a.x b.x && eq a.y b.y) (eq a.z b.z) h;
    }

of_same : (a b : Vec3) → Same a b → same a b ≡ true
unfolding same
of_same a b s = and_both (eq a.x b.x && eq a.y b.y) (eq a.z b.z) (and_both (eq a.x b.x) (eq a.y b.y) s.at_x s.at_y) s.at_z

pub same_sym : (a b : Vec3) → same a b ≡ true → same b a ≡ true
same_sym a b h =
    let s = same_of a b h in
    of_same b a (record { at_x = eq_sym _ _ s.at_x; at_y = eq_sym _ _ s.at_y; at_z = eq_sym _ _ s.at_z })

pub same_trans : (a b c : Vec3) → same a b ≡ true → same b c ≡ true → same a c ≡ true
same_trans a b c h k =
    let s = same_of a b h in
    let t = same_of b c k in
    of_same a c (record { at_x = eq_trans _ _ _ s.at_x t.at_x; at_y = eq_trans _ _ _ s.at_y t.at_y; at_z = eq_trans _ _ _ s.at_z t.at_z })
