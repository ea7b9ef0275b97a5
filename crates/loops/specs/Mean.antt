-- 01, "Bands": rings are ordered by mean v.
use mathlib.Core.List.{List, [], ◌∷◌, foldl}
use Rattle.std.specs.Prelude.{length, Float}
use Rattle.std.specs.Float.Ieee.{neg}
use Rattle.numbers.specs.Constants.{plus_zero}
use Rattle.numbers.specs.Rounded.{◌⊕◌, ◌⊘◌, count}

-- from -0.0, where the Rust's sum starts; no order of means shows it
unfoldable pub sum_of : List Float → Float
sum_of xs = foldl ◌⊕◌ (neg plus_zero) xs

-- the mean of none is 0.0
unfoldable pub mean_of : List Float → Float
mean_of [] = plus_zero
mean_of (v ∷ vs) = sum_of (v ∷ vs) ⊘ count (length (v ∷ vs))
