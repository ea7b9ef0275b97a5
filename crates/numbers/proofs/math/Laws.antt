-- The tests of a length that a vector is divided by.
use Rattle.std.proofs.Common.{◌≡◌, true, false, refl}
use mathlib.Core.Bool.{false≢true}
use lib.Ieee.{Float, nan, inf, fin, binary64, lt, of_bits, div}
use lib.Ieee.Scale.{finite}
use Rattle.numbers.specs.Constants.{plus_zero, one, shortest}

-- 1 / 0 is an infinity
inf_is : div binary64 one plus_zero ≡ inf false
unfolding div of_bits
inf_is = refl

-- what is above `shortest` is finite where it is below an infinity
finite_is : (n : Float) → lt shortest n ≡ true → lt n (inf false) ≡ finite n
unfolding lt of_bits
finite_is nan h = refl
finite_is (inf true) h = absurd (false≢true h)
finite_is (inf false) h = refl
finite_is (fin s m e) h = refl
