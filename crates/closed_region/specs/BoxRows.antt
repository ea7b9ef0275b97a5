-- A row of a table of boxes.
use Rattle.std.specs.Prelude.{List, get_or, Float}
use Rattle.std.specs.Float.{nan}
use Rattle.closed_region.specs.declared.boxes.Bounds.{Bounds}

-- a row of four reals
abbrev pub four_reals : List Float → Bounds
four_reals r = record { ulo = get_or r 0 nan; uhi = get_or r 1 nan; vlo = get_or r 2 nan; vhi = get_or r 3 nan }
