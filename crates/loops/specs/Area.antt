-- 01, "Closed faces": "`signed_area` is half the cyclic sum".
use Rattle.std.specs.Prelude.{ℕ, zero, suc, ◌+◌, ◌%◌, min, List, length, get_or, Float}
use Rattle.std.specs.Float.{nan}
use Rattle.numbers.specs.Constants.{plus_zero, half}
use Rattle.numbers.specs.Rounded.{◌⊕◌, ◌⊖◌, ◌⊗◌}

-- the cross product of the corners i and j
unfoldable pub cross_at : List Float → List Float → ℕ → ℕ → Float
cross_at us vs i j = get_or us i nan ⊗ get_or vs j nan ⊖ get_or us j nan ⊗ get_or vs i nan

-- of the first k of n corners, each with the next round the loop: their sum, from +0.0, in order
unfoldable pub cross_sum : List Float → List Float → ℕ → ℕ → Float
cross_sum us vs n zero = plus_zero
cross_sum us vs n (suc k) = cross_sum us vs n k ⊕ cross_at us vs k ((k + 1) % n)

-- the area of the corners that both lists have
unfoldable pub area_of : List Float → List Float → Float
area_of us vs = let n = min (length us) (length vs) in cross_sum us vs n n ⊗ half
