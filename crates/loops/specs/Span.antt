-- The least and the greatest of a list, by min and max of 01, item 3, and the middle between them.
use Rattle.std.specs.Prelude.{true, false, Float}
use mathlib.Core.List.{List, foldl}
use Rattle.std.specs.Float.{inf}
use Rattle.numbers.specs.Constants.{half}
use Rattle.numbers.specs.Order.{min_of, max_of}
use Rattle.numbers.specs.Rounded.{◌⊕◌, ◌⊗◌}

unfoldable pub least_of : List Float → Float
least_of xs = foldl min_of (inf false) xs

unfoldable pub greatest_of : List Float → Float
greatest_of xs = foldl max_of (inf true) xs

unfoldable pub middle_of : List Float → Float
middle_of xs = (least_of xs ⊕ greatest_of xs) ⊗ half
