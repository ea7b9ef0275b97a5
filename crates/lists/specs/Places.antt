-- The places of a list.
use Rattle.std.specs.Prelude.{ℕ, zero, suc, List, [], ◌∷◌}

-- n places from i on
unfoldable pub places_from : ℕ → ℕ → List ℕ
places_from i zero = []
places_from i (suc n) = i ∷ places_from (suc i) n

-- 0, 1, .., n - 1
unfoldable pub places : ℕ → List ℕ
places n = places_from 0 n
