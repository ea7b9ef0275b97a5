-- The size of a real, and the lesser and the greater of two.
use Rattle.std.specs.Prelude.{false, cond, Float}
use Rattle.std.specs.Float.{nan, inf, fin}
use Rattle.std.specs.Float.Ieee.{lt}

unfoldable pub abs_of : Float → Float
abs_of nan = nan
abs_of (inf s) = inf false
abs_of (fin s m e) = fin false m e

-- 01, item 3: min and max keep the earlier of two equals. Where one is a NaN the papers leave the answer free, and here it is the earlier too.
abbrev pub min_of : Float → Float → Float
min_of a b = cond (lt b a) b a

abbrev pub max_of : Float → Float → Float
max_of a b = cond (lt a b) b a
