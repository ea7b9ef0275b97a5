-- 01, "The face record": the limits. "Limits are included."
use Rattle.std.specs.Prelude.{ℕ, ◌+◌, ◌-◌, ◌*◌, ◌%◌, Bool, true, false, ◌&&◌, cond, Float}
use Rattle.std.specs.Float.{nan, inf, fin, binary64}
use Rattle.std.specs.Float.Ieee.{of_bits, le, neg}
use Rattle.numbers.specs.Constants.{10^-3, 10^-6}
use Rattle.records.specs.declared.limits.Limits.{Limits}
use Rattle.records.specs.Bytes.{◌<?◌, ◌≤?◌, ◌=?◌}
use Rattle.records.specs.Face.{head_reals}

-- ---- sizes

-- 01, the table: "3, L: L over 16", "5 .. running total passes 512", "12 .. has over 1,024", "1 .. fewer than 61,614 result bytes lent"
abbrev pub version1 : Limits
version1 = record { loops = 16; points = 512; strip = 1024; result = 61614 }

abbrev pub min_points : ℕ
min_points = 3

-- ---- bounds of the reals: each is the double nearest to the number that its name says

abbrev pub 10^9 : Float
10^9 = of_bits binary64 0x41cd_cd65_0000_0000

abbrev pub 10^6 : Float
10^6 = of_bits binary64 0x412e_8480_0000_0000

abbrev pub 10^3 : Float
10^3 = of_bits binary64 0x408f_4000_0000_0000

abbrev pub 64·0 : Float
64·0 = of_bits binary64 0x4050_0000_0000_0000

abbrev pub 1·5 : Float
1·5 = of_bits binary64 0x3ff8_0000_0000_0000

abbrev pub 0·0 : Float
0·0 = of_bits binary64 0

-- ---- ranges

infixl 20 ◌to◌
pub data Range : Type 0 where
  ◌to◌ : Float → Float → Range

-- the numbers of a size up to b
abbrev pub up_to : Float → Range
up_to b = neg b to b

abbrev pub finite : Float → Bool
finite nan = false
finite (inf s) = false
finite (fin s m e) = true

-- x is finite and not outside the range, compared as numbers: -0 counts as 0
unfoldable pub holds : Range → Float → Bool
holds (low to high) x = finite x && (le low x && le x high)

-- "0 plane, 1 cylinder, 2 cone, 3 sphere, 4 torus"
abbrev pub plane : ℕ
plane = 0

abbrev pub cylinder : ℕ
cylinder = 1

abbrev pub cone : ℕ
cone = 2

abbrev pub sphere : ℕ
sphere = 3

abbrev pub torus : ℕ
torus = 4

-- "9: radius or major radius, 10^-6 to 10^6 (cone: 0 to 10^6; plane: 0)."
unfoldable pub radius : ℕ → Range
radius kind = cond (kind =? plane) (0·0 to 0·0) (cond (kind =? cone) (0·0 to 10^6) (10^-6 to 10^6))

-- "10: cone half angle, -1.5 to 1.5, or torus minor radius, 10^-6 to 10^6; 0 for other kinds."
unfoldable pub second : ℕ → Range
second kind = cond (kind =? cone) (up_to 1·5) (cond (kind =? torus) (10^-6 to 10^6) (0·0 to 0·0))

-- "Size limits: .. 10^6 for u of a plane and v of plane, cylinder and cone; 64 for other parameters."
unfoldable pub u_range : ℕ → Range
u_range kind = cond (kind =? plane) (up_to 10^6) (up_to 64·0)

unfoldable pub v_range : ℕ → Range
v_range kind = cond (kind ≤? cone) (up_to 10^6) (up_to 64·0)

-- the 13 reals: "0 to 8: origin, axis, reference direction, size at most 10^9"; 9 and 10 as above; "11: sag, 10^-6 to 10^3. 12: angle, 0.001 to 1.5."
unfoldable pub head_range : ℕ → ℕ → Range
head_range kind i =
    cond (i <? 9) (up_to 10^9)
    (cond (i =? 9) (radius kind)
    (cond (i =? 10) (second kind)
    (cond (i =? 11) (10^-6 to 10^3) (10^-3 to 1·5))))

-- parameter real j, from 0: u and v in turn
unfoldable pub uv_range : ℕ → ℕ → Range
uv_range kind j = cond (j % 2 =? 0) (u_range kind) (v_range kind)

-- "Size limits: 10^9 for positions"
abbrev pub xyz_range : Range
xyz_range = up_to 10^9

-- real i, in file order from 0, of a face with n points
unfoldable pub range : ℕ → ℕ → ℕ → Range
range kind n i =
    cond (i <? head_reals) (head_range kind i)
    (cond (i <? head_reals + 2 * n) (uv_range kind (i - head_reals)) xyz_range)
