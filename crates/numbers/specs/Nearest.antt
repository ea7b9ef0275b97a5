-- What "the root, to the nearest" says, over whole numbers, with no word on how it is found. Everything is counted in units of the least real, 2 ^ -1074.
use Rattle.std.specs.Prelude.{ℕ, suc, ◌+◌, ◌*◌, ◌/◌, ◌^◌, ◌<◌, false, T, ℤ, Float}
use Rattle.std.specs.Float.{fin, binary64}
use Rattle.std.specs.Float.Ieee.{up, down, fits}
use Rattle.std.specs.Float.Ieee.Exact.{HasValue}
use Rattle.numbers.specs.Sqrt.{sqrt_of}

-- r is N units, and every other real y, of Y units, is further from √X units: √X lies on r's side of the middle of the two, (Y + N) / 2. So no tie can arise.
abbrev pub NearestRoot : ℕ → Float → Type 0
NearestRoot X r =
    (N : ℕ) × HasValue r false N (2 ^ 1074)
    × ((y : Float) (Y : ℕ) → T (fits binary64 y) → HasValue y false Y (2 ^ 1074) → (Y < N → (Y + N) * (Y + N) < 4 * X) × (N < Y → 4 * X < (Y + N) * (Y + N)))

-- 01, "Files, lowest first": "The square root, nearest with ties to even, stated over whole numbers". Of every real above zero and below the infinity, x = (m + 1) * up e / down e: √x is √X units, with X = x * 4 ^ 1074
abbrev pub SqrtMeans : Type 0
SqrtMeans = (m : ℕ) (e : ℤ) → T (fits binary64 (fin false (suc m) e)) → NearestRoot (suc m * up e * 4 ^ 1074 / down e) (sqrt_of (fin false (suc m) e))
