-- Rings, lists whose last point repeats the first, begun at another point, as `begin_ring_at`, `reseam` (02, N4) and, on another branch of u, `align_cuts` begin
-- them. 01, "Bands": `align_cuts` "drops a later ring's last point, which repeats its first, begins at the point nearest the cut by periods (first of equals), and
-- closes at first u plus period".
use Rattle.std.specs.Prelude.{ℕ, Bool, true, take, drop}
use mathlib.Core.List.{List, [], ◌∷◌, ◌++◌, map, drop_last}
use Rattle.loops.specs.Steps.{last_of}

-- `again` is what is done to a point that comes round: its u rises by the period, its position stays.
module _ {A : Type 0} (again : A → A) where
  -- begun at point k
  unfoldable pub begun : ℕ → List A → List A
  begun k xs = drop k xs ++ map again (take k xs)

  -- closed with its first point
  unfoldable pub closed : List A → List A
  closed [] = []
  closed (x ∷ xs) = (x ∷ xs) ++ (again x ∷ [])

  -- its repeated last point dropped, begun at point k, closed
  unfoldable pub turned : ℕ → List A → List A
  turned k xs = closed (begun k (drop_last xs))

abbrev pub unchanged : {A : Type 0} → A → A
unchanged x = x

-- whether the last point repeats the first: refusal 8 is for a ring "whose last position is not its first, compared as numbers"
unfoldable pub ends_meet : {A : Type 0} → (A → A → Bool) → List A → Bool
ends_meet same [] = true
ends_meet same (x ∷ xs) = same (last_of x xs) x
