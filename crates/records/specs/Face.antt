-- 01, "The face record": where everything stands in it. Bytes past the end of a record count as 0; the refusals see to it that none is used.
use Rattle.std.specs.Prelude.{ℕ, zero, suc, ◌+◌, ◌*◌, List, map, Float}
use Rattle.lists.specs.Pieces.{pieces}
use Rattle.numbers.specs.declared.math.Vec2.{Vec2}
use Rattle.numbers.specs.declared.math.Vec3.{Vec3}
use Rattle.tables.specs.Corners.{Corner, Corners, corners_from}
use Rattle.records.specs.Bytes.{byte_at, u16_at, real_at, uv_at, xyz_at, row_at}

-- "Byte 0 version (1), 1 kind (0 plane, 1 cylinder, 2 cone, 3 sphere, 4 torus), 2 loops L (0 to 16), 3 same sense (0 or 1), 4 minimum segments (1 to 64)."
abbrev pub header_size : ℕ
header_size = 5

abbrev pub version : List ℕ → ℕ
version s = byte_at s 0

abbrev pub kind : List ℕ → ℕ
kind s = byte_at s 1

abbrev pub loops : List ℕ → ℕ
loops s = byte_at s 2

abbrev pub sense : List ℕ → ℕ
sense s = byte_at s 3

abbrev pub segments : List ℕ → ℕ
segments s = byte_at s 4

-- "Then L two-byte counts": how many points loop k has
abbrev pub count : List ℕ → ℕ → ℕ
count s k = u16_at s (header_size + 2 * k)

unfoldable pub counts : List ℕ → List ℕ
counts s = row_at u16_at 2 s header_size (loops s)

-- the running total: how many points the loops before loop k have
unfoldable pub start : List ℕ → ℕ → ℕ
start s zero = 0
start s (suc k) = start s k + count s k

abbrev pub points : List ℕ → ℕ
points s = start s (loops s)

-- "Then 13 reals. Then all (u, v), then all (x, y, z)." Where real i stands, in file order from 0
abbrev pub head_reals : ℕ
head_reals = 13

abbrev pub real_place : List ℕ → ℕ → ℕ
real_place s i = header_size + 2 * loops s + 8 * i

abbrev pub real_of : List ℕ → ℕ → Float
real_of s i = real_at s (real_place s i)

-- how many reals there are, and the length that the counts give
abbrev pub reals : List ℕ → ℕ
reals s = head_reals + 5 * points s

abbrev pub needed : List ℕ → ℕ
needed s = real_place s (reals s)

unfoldable pub head : List ℕ → List Float
head s = row_at real_at 8 s (real_place s 0) head_reals

unfoldable pub parameters : List ℕ → List Vec2
parameters s = row_at uv_at 16 s (real_place s head_reals) (points s)

unfoldable pub positions : List ℕ → List Vec3
positions s = row_at xyz_at 24 s (real_place s (head_reals + 2 * points s)) (points s)

unfoldable pub loop_positions : List ℕ → List (List Vec3)
loop_positions s = pieces (counts s) (positions s)

abbrev pub u_of : Vec2 → Float
u_of p = p.u

abbrev pub v_of : Vec2 → Float
v_of p = p.v

-- "Then all (u, v), then all (x, y, z).": the corners of all loops
unfoldable pub corners_in : List ℕ → Corners Vec3
corners_in s = corners_from (map u_of (parameters s)) (map v_of (parameters s)) (positions s)

-- the corner whose parameters stand at p and whose position stands at q
unfoldable pub corner_at : List ℕ → ℕ → ℕ → Corner Vec3
corner_at s p q = record { u = (uv_at s p).u; v = (uv_at s p).v; at = xyz_at s q }
