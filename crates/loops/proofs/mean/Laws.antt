-- The mean by the length of the list.
use mathlib.Core.Path.{◌≡◌, refl}
use mathlib.Core.List.{List, [], ◌∷◌}
use native.Mathlib.Omega.{arith}
use lib.ListN.{length}
use lib.Ieee.{Float}
use Rattle.numbers.specs.Constants.{plus_zero}
use Rattle.numbers.specs.Rounded.{◌⊘◌, count}
use Rattle.loops.specs.Mean.{sum_of, mean_of}

pub mean_of_none : (vs : List Float) → length vs ≡ 0 → plus_zero ≡ mean_of vs
unfolding mean_of
mean_of_none [] h = refl
mean_of_none (v ∷ vs) h = absurd (omega arith)

pub mean_of_some : (vs : List Float) → (length vs ≡ 0 → ⊥) → sum_of vs ⊘ count (length vs) ≡ mean_of vs
unfolding mean_of
mean_of_some [] h = absurd (h refl)
mean_of_some (v ∷ vs) h = refl
