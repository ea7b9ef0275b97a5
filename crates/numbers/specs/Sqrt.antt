-- The square root of a real, rounded once: to the nearest, ties to even (`Nearest.antt` says that no other real is as near). In units of the least real, 2 ^ -1074, a root is √X for the whole number X = x * 4 ^ 1074.
-- As `round` of lib.Ieee does with a fraction, of √X's whole part the format keeps the 53 leading digits q and drops k, and goes up by how √X compares with (q + 1 / 2) * 2 ^ k, squared and times 4.
-- NaN and everything below zero give NaN, but -0.0 gives -0.0.
use Rattle.std.specs.Prelude.{ℕ, zero, suc, ◌+◌, ◌-◌, ◌*◌, ◌/◌, ◌^◌, true, false, Float}
use Prim.Native.Nat.{compare}
use Rattle.std.specs.Float.{nan, inf, fin, binary64}
use Rattle.std.specs.Float.Ieee.{up, down, size, nearest, units}
use Rattle.numbers.specs.Root.{root_of}

unfoldable pub root_float : ℕ → Float
unfolding root_of size units
root_float X =
    let w = root_of X in
    let k = size w - 53 in
    let q = w / 2 ^ k in
    units binary64 false (nearest q (compare (4 * X) ((2 * q + 1) * (2 * q + 1) * 4 ^ k))) k

unfoldable pub sqrt_of : Float → Float
unfolding root_float
sqrt_of nan = nan
sqrt_of (inf true) = nan
sqrt_of (inf false) = inf false
sqrt_of (fin s zero e) = fin s zero e
sqrt_of (fin true (suc m) e) = nan
sqrt_of (fin false (suc m) e) = root_float (suc m * up e * 4 ^ 1074 / down e)
