-- 01, "The result record": numbers in files are little-endian; reals are IEEE 754 doubles.
use Rattle.std.specs.Prelude.{ℕ, zero, suc, ◌+◌, ◌*◌, ◌/◌, ◌%◌, Bool, List, [], ◌∷◌, ◌++◌, get_or, take, drop, ltb, leb, eqb, Float}
use Rattle.std.specs.Float.{binary64}
use Rattle.std.specs.Float.Ieee.{of_bits, to_bits}
use Rattle.numbers.specs.declared.math.Vec2.{Vec2}
use Rattle.numbers.specs.declared.math.Vec3.{Vec3}

-- ---- tests

infix 40 ◌<?◌ ◌≤?◌ ◌=?◌
abbrev pub ◌<?◌ : ℕ → ℕ → Bool
m <? n = ltb m n

abbrev pub ◌≤?◌ : ℕ → ℕ → Bool
m ≤? n = leb m n

abbrev pub ◌=?◌ : ℕ → ℕ → Bool
m =? n = eqb m n

-- ---- reading

-- the number that bytes stand for, the lowest byte first
unfoldable pub number : List ℕ → ℕ
number [] = 0
number (b ∷ bs) = b + 256 * number bs

-- the number in the w bytes from place p on
unfoldable pub number_at : ℕ → List ℕ → ℕ → ℕ
number_at w s p = number (take w (drop p s))

abbrev pub byte_at : List ℕ → ℕ → ℕ
byte_at s p = get_or s p 0

abbrev pub u16_at : List ℕ → ℕ → ℕ
u16_at s p = number_at 2 s p

unfoldable pub real_at : List ℕ → ℕ → Float
real_at s p = of_bits binary64 (number_at 8 s p)

unfoldable pub uv_at : List ℕ → ℕ → Vec2
uv_at s p = record { u = real_at s p; v = real_at s (p + 8) }

unfoldable pub xyz_at : List ℕ → ℕ → Vec3
xyz_at s p = record { x = real_at s p; y = real_at s (p + 8); z = real_at s (p + 16) }

-- n things that stand one after another from place p on, each w bytes wide, each read by `one`
unfoldable pub row_at : {A : Type 0} → (List ℕ → ℕ → A) → ℕ → List ℕ → ℕ → ℕ → List A
row_at one w s p zero = []
row_at one w s p (suc n) = one s p ∷ row_at one w s (p + w) n

-- ---- writing

-- the w lowest bytes of n, the lowest first
unfoldable pub bytes : ℕ → ℕ → List ℕ
bytes zero n = []
bytes (suc w) n = n % 256 ∷ bytes w (n / 256)

abbrev pub u16 : ℕ → List ℕ
u16 n = bytes 2 n

unfoldable pub real : Float → List ℕ
real x = bytes 8 (to_bits binary64 x)

unfoldable pub uv : Vec2 → List ℕ
uv p = real p.u ++ real p.v

unfoldable pub xyz : Vec3 → List ℕ
xyz p = real p.x ++ (real p.y ++ real p.z)

-- things one after another, each written by `one`
unfoldable pub row : {A : Type 0} → (A → List ℕ) → List A → List ℕ
row one [] = []
row one (a ∷ l) = one a ++ row one l
