-- The exact cases of sin and cos: whole multiples of H, rounded once. 01, "How each place should look": "exact cases at multiples of H".
use Rattle.std.specs.Prelude.{◌≡◌, ℕ, zero, suc, ◌-◌, ◌%◌, Bool, true, false, ◌&&◌, ℤ, pos, negsuc, Float}
use Rattle.std.specs.Float.{binary64}
use Rattle.std.specs.Float.Ieee.{neg, eq, lt, of_int}
use Rattle.numbers.specs.declared.trig.SinCos.{SinCos}
use Rattle.numbers.specs.Rounded.{◌⊗◌}
use Rattle.numbers.specs.Constants.{plus_zero, one, thousand, H}
use Rattle.numbers.specs.Trig.{sincos_of}

-- k times H
abbrev pub multiple_of : ℤ → Float
multiple_of k = of_int binary64 k ⊗ H

-- k mod 4, taken from 0 to 3
abbrev pub quarters_of : ℤ → ℕ
quarters_of (pos n) = n % 4
quarters_of (negsuc n) = (4 - suc n % 4) % 4

-- (sin, cos) after k quarter turns: (0, 1), (1, 0), (0, -1), (-1, 0)
abbrev pub exactly : ℕ → SinCos
exactly zero = record { sin = plus_zero; cos = one }
exactly (suc zero) = record { sin = one; cos = plus_zero }
exactly (suc (suc zero)) = record { sin = plus_zero; cos = neg one }
exactly (suc (suc (suc k))) = record { sin = neg one; cos = plus_zero }

-- both are equal as numbers
abbrev pub equal : SinCos → SinCos → Bool
equal a b = eq a.sin b.sin && eq a.cos b.cos

-- for whole k, with t = k H of size at most 1,000, sin t and cos t are those of k quarter turns
abbrev pub ExactMultiples : Type 0
ExactMultiples =
    (k : ℤ) → lt thousand (multiple_of k) ≡ false → lt (multiple_of k) (neg thousand) ≡ false → equal (sincos_of (multiple_of k)) (exactly (quarters_of k)) ≡ true
