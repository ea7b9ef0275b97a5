-- What the search for a start answers, for two rings' corners. The sentences are those of 01, "Bands".
use Rattle.std.specs.Prelude.{ℕ, ◌+◌, Bool, false, cond, ltb, Float, length}
use Rattle.numbers.specs.declared.math.Vec3.{Vec3}
use Rattle.tables.specs.Corners.{Corners}
use Rattle.rings.specs.Starts as Starts
use Rattle.rings.specs.Starts.{starts, first_serving}
use Rattle.starts.specs.declared.trials.Search.{Search}

module _ (period : Float) (first later : Corners Vec3) where
  -- whether one "neither begins backward nor leaves a constant-u step on the seam"
  unfoldable pub served : Bool
  served = ltb (first_serving period first later) (starts period first)

  -- how many were tried, 02, N10: "the number of the chosen start plus one, or all where none serves"
  unfoldable pub tried : ℕ
  tried = cond served (first_serving period first later + 1) (starts period first)

  abbrev pub searched : Search
  searched = record { start = Starts.start period first later; tried = tried; served = served }

-- no start tried
abbrev pub not_searched : Search
not_searched = record { start = 0; tried = 0; served = false }

-- "A trial is worked on a copy of 512 places": here of any number, which both rings must fit
unfoldable pub search_within : Float → ℕ → Corners Vec3 → Corners Vec3 → Search
search_within period room first later = cond (ltb room (length first + length later)) not_searched (searched period first later)
