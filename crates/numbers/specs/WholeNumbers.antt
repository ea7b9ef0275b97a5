-- What round, floor and ceil say, over whole numbers, with no word on how they are found: which whole number each gives, by its distance. A finite real is a / b with its sign, where
-- a = m * up e and b = down e are whole.
use Rattle.std.specs.Prelude.{ℕ, ◌+◌, ◌*◌, ◌<◌, ◌≤◌, Bool, true, false, T, ℤ, Float}
use Rattle.std.specs.Float.{fin, binary64}
use Rattle.std.specs.Float.Ieee.{up, down, fits}
use Rattle.std.specs.Float.Ieee.Exact.{HasValue}
use Rattle.numbers.specs.Round.{round_away, floor_of, ceil_of}

-- n is the nearest to a / b, of two the larger: n - 1 / 2 ≤ a / b < n + 1 / 2
pub record Nearest (a b n : ℕ) : Type 0 where
  pub low : 2 * n * b ≤ 2 * a + b
  pub high : 2 * a < 2 * n * b + b

-- n ≤ a / b < n + 1
pub record Below (a b n : ℕ) : Type 0 where
  pub low : n * b ≤ a
  pub high : a < n * b + b

-- n - 1 < a / b ≤ n
pub record Above (a b n : ℕ) : Type 0 where
  pub low : n * b < a + b
  pub high : a ≤ n * b

-- r has the sign of the real, a zero too, and its size is a whole number n, exactly, of which P holds
pub record Whole (P : ℕ → ℕ → ℕ → Type 0) (s : Bool) (m : ℕ) (e : ℤ) (r : Float) : Type 0 where
  pub n : ℕ
  pub exact : HasValue r s n 1
  pub is : P (m * up e) (down e) n

-- 01, "Closed faces": "rounded half away from zero"; "Values to hold": "round: 0.5 to 1; -0.5 to -1; 2.5 to 3; -0.25 to -0"
abbrev pub RoundMeans : Type 0
RoundMeans = (s : Bool) (m : ℕ) (e : ℤ) → T (fits binary64 (fin s m e)) → Whole Nearest s m e (round_away (fin s m e))

-- down: the size of what is above zero is cut, and of what is below zero it grows; 01, "Values to hold": "floor(-0.5) = -1"
abbrev pub downward : Bool → ℕ → ℕ → ℕ → Type 0
downward false = Below
downward true = Above

abbrev pub FloorMeans : Type 0
FloorMeans = (s : Bool) (m : ℕ) (e : ℤ) → T (fits binary64 (fin s m e)) → Whole (downward s) s m e (floor_of (fin s m e))

-- up: the other way about
abbrev pub upward : Bool → ℕ → ℕ → ℕ → Type 0
upward false = Above
upward true = Below

abbrev pub CeilMeans : Type 0
CeilMeans = (s : Bool) (m : ℕ) (e : ℤ) → T (fits binary64 (fin s m e)) → Whole (upward s) s m e (ceil_of (fin s m e))
