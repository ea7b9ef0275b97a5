-- Corners as bytes.
use mathlib.Core.Path.{◌≡◌, refl, ap}
use mathlib.Core.List.{List, [], ◌∷◌, ◌++◌, map, append-nil}
use Prim.Native.Nat.{ℕ}
use lib.ListN.{length}
use lib.Ieee.{Float}
use Rattle.records.specs.Bytes.{real, uv, xyz, row}
use Rattle.records.proofs.RoundTrip.{codes_uv, codes_xyz}
use Rattle.numbers.specs.declared.math.Vec3.{Vec3}
use Rattle.tables.specs.Corners.{Corner, Corners, uv_of, positions}

-- its parameters, and its position
abbrev pub uv_bytes : Corner Vec3 → List ℕ
uv_bytes c = uv (uv_of c)

abbrev pub xyz_bytes : Corner Vec3 → List ℕ
xyz_bytes c = xyz c.at

pub uv_wide : (c : Corner Vec3) → length (uv_bytes c) ≡ 16
uv_wide c = codes_uv.wide (uv_of c)

pub xyz_wide : (c : Corner Vec3) → length (xyz_bytes c) ≡ 24
xyz_wide c = codes_xyz.wide c.at

-- as reals in a row

pub two_reals : (u v : Float) → row real (u ∷ v ∷ []) ≡ uv (record { u = u; v = v })
unfolding row uv
two_reals u v = ap (λ (l : List ℕ). real u ++ l) (append-nil (real v))

pub three_reals : (x y z : Float) → row real (x ∷ y ∷ z ∷ []) ≡ xyz (record { x = x; y = y; z = z })
unfolding row xyz
three_reals x y z = ap (λ (l : List ℕ). real x ++ (real y ++ l)) (append-nil (real z))

-- of all corners

pub all_uv : (t : Corners Vec3) → row uv_bytes t ≡ row uv (map uv_of t)
unfolding row
all_uv [] = refl
all_uv (c ∷ t) = ap (λ (l : List ℕ). uv_bytes c ++ l) (all_uv t)

pub all_xyz : (t : Corners Vec3) → row xyz_bytes t ≡ row xyz (positions t)
unfolding row
all_xyz [] = refl
all_xyz (c ∷ t) = ap (λ (l : List ℕ). xyz_bytes c ++ l) (all_xyz t)
