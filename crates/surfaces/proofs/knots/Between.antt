-- The rungs between two bounded reals are bounded: by the lower end's bound and that of the width together, where the upper end is.
use Rattle.std.proofs.Common.{ℕ, ◌+◌, ◌*◌, ◌^◌, ◌<◌, ◌≤◌, max, length, get_or, sym, subst, ⊎_elim, lt_of_le_of_lt, mul-le-mul_left, arith}
use lib.Ieee.{Float, nan}
use Rattle.numbers.specs.Rounded.{◌⊖◌, ◌⊗◌, ◌⊘◌, count}
use Rattle.numbers.specs.Within.{Within}
use Rattle.numbers.proofs.Fractions.{quotient_within, count-at-least, count_within}
use Rattle.numbers.proofs.Magnitude.{held_small, within_more, add_within, mul_within}
use Rattle.surfaces.specs.Rungs.{division, rungs, inner}
use Rattle.surfaces.proofs.knots.Rungs.{inner_each, rungs_each}

module _ (A D n : ℕ) (lo hi : Float) (low : Within A lo) (wide : Within D (hi ⊖ lo)) (few : max n 1 < 2 ^ 53) (short : D * max n 1 < 2 ^ 53) (most : A + D < 2 ^ 53) where
  division_within : (i : ℕ) → i ≤ n → Within (A + D) (division lo hi n i)
  unfolding division
  division_within i h =
      let part : D * i ≤ D * max n 1 = mul-le-mul_left D (omega arith) in
      let product : Within (D * max n 1) ((hi ⊖ lo) ⊗ count i) =
      within_more (D * i) (D * max n 1) ((hi ⊖ lo) ⊗ count i) part
      (mul_within D i (hi ⊖ lo) (count i) (held_small (D * i) (lt_of_le_of_lt part short)) wide (count_within i (omega arith))) in
      add_within A D lo ((hi ⊖ lo) ⊗ count i ⊘ count (max n 1)) (held_small (A + D) most) low
      (quotient_within D (max n 1) ((hi ⊖ lo) ⊗ count i) (count (max n 1)) (held_small D (omega arith)) (omega arith) product (count-at-least (max n 1) (omega arith)))

  pub inner_within : (j : ℕ) → j < length (inner (rungs lo hi n)) → Within (A + D) (get_or (inner (rungs lo hi n)) j nan)
  inner_within j h = let d = inner_each lo hi n j h in subst (Within (A + D)) (sym d.is) (division_within d.at d.most)

  pub rungs_within : Within (A + D) hi → (j : ℕ) → j < length (rungs lo hi n) → Within (A + D) (get_or (rungs lo hi n) j nan)
  rungs_within high j h =
      ⊎_elim (λ d. subst (Within (A + D)) (sym d.is) (division_within d.at d.most)) (λ e. subst (Within (A + D)) (sym e) high) (rungs_each lo hi n j h)
