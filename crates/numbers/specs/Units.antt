-- A real counted in units of the least one, 2 ^ -1074: a whole number for every finite real, so that a distance between reals can be stated with nothing of it rounded.
use Rattle.std.specs.Prelude.{◌≡◌, ℕ, ◌+◌, ◌*◌, ◌/◌, ◌^◌, ◌<◌, ◌≤◌, Bool, true, false, T, ℤ, pos, ◌+ℤ◌, ◌-ℤ◌, neg_ℤ, int_le, int_lt, unsigned_abs, Float}
use Rattle.std.specs.Float.{nan, inf, fin, binary64}
use Rattle.std.specs.Float.Ieee.{up, down, round, fits, le, lt}
use Rattle.std.specs.Float.Ieee.Exact.{HasValue}
use Rattle.std.specs.Float.Ieee.Scale.{finite}
use Rattle.numbers.specs.Rounded.{◌⊕◌, ◌⊖◌}

-- how many units 1 is
abbrev pub scale : ℕ
scale = 2 ^ 1074

-- n with a sign
abbrev pub signed : Bool → ℕ → ℤ
signed false n = pos n
signed true n = neg_ℤ (pos n)

-- 02, N12: "whole multiples of 2^-1074". A finite x is units x * 2 ^ -1074; a NaN and the infinities have no count, and 0 stands for it.
unfoldable pub units : Float → ℤ
units nan = pos 0
units (inf s) = pos 0
units (fin s m e) = signed s (m * up e * scale / down e)

-- how far apart two reals are, in units. 02, N12: "The distance is exact"
abbrev pub distance : Float → Float → ℕ
distance x y = unsigned_abs (units x -ℤ units y)

-- ---- what makes it believable

-- x is a finite number that an f64 holds
pub record FiniteReal (x : Float) : Type 0 where
  pub fits : T (fits binary64 x)
  pub finite : T (finite x)

-- every finite real is exactly its count: the division leaves no remainder
abbrev pub UnitsExact : Type 0
UnitsExact = (s : Bool) (m : ℕ) (e : ℤ) → T (fits binary64 (fin s m e)) → (n : ℕ) × HasValue (fin s m e) s n scale × (units (fin s m e) ≡ signed s n)

-- the order of finite reals is that of their counts
abbrev pub UnitsOrder : Type 0
UnitsOrder = (x y : Float) → FiniteReal x → FiniteReal y → (le x y ≡ int_le (units x) (units y)) × (lt x y ≡ int_lt (units x) (units y))

-- if a finite real is x + y exactly, or x - y, then the rounded sum, or the rounded difference, has that value
abbrev pub UnitsSum : Type 0
UnitsSum =
    (x y z : Float) → FiniteReal x → FiniteReal y → FiniteReal z
    → (units z ≡ units x +ℤ units y → T (finite (x ⊕ y)) × (units (x ⊕ y) ≡ units z))
    × (units z ≡ units x -ℤ units y → T (finite (x ⊖ y)) × (units (x ⊖ y) ≡ units z))

-- ---- how far one rounded operation is off

-- z has the sign s and is n units in size, and n is at most E units from a / c
pub record OffByAtMost (E : ℕ) (z : Float) (s : Bool) (a c : ℕ) : Type 0 where
  pub n : ℕ
  pub exact : HasValue z s n scale
  pub over : n * c ≤ a * scale + E * c
  pub under : a * scale ≤ n * c + E * c

-- Each of the four operations works out its answer exactly, as a fraction a / c with a sign, and rounds it once, by `round`. Where the fraction is below 2 ^ k, k being below 1024, so that nothing overflows, the answer is at most 2 ^ (k - 54) off: 2 ^ (k + 1020) units.
abbrev pub RoundingError : Type 0
RoundingError = (k : ℕ) (s : Bool) (a c : ℕ) → k < 1024 → 0 < c → a < 2 ^ k * c → OffByAtMost (2 ^ (k + 1020)) (round binary64 s a c) s a c

-- the same of a sum and of a difference, in units
abbrev pub SumError : Type 0
SumError =
    (k : ℕ) (x y : Float) → k < 1024 → FiniteReal x → FiniteReal y
    → (unsigned_abs (units x +ℤ units y) < 2 ^ k * scale → T (finite (x ⊕ y)) × (unsigned_abs (units (x ⊕ y) -ℤ (units x +ℤ units y)) ≤ 2 ^ (k + 1020)))
    × (unsigned_abs (units x -ℤ units y) < 2 ^ k * scale → T (finite (x ⊖ y)) × (unsigned_abs (units (x ⊖ y) -ℤ (units x -ℤ units y)) ≤ 2 ^ (k + 1020)))
