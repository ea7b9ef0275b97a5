-- Steps round a list, and their counts, as 01, "Bands", last paragraph, has them for demand 3: "Round a list of positions there is a step from each
-- to the next and from the last to the first; a step from a position to itself adds nothing to any count." The last half is proved (proofs/Alike).
use Rattle.std.specs.Prelude.{ℕ, ◌+◌, ◌≡◌, Bool, true, cond, ◌&&◌, List, [], ◌∷◌, ◌++◌, ℤ, pos, ◌-ℤ◌}

pub record Step (A : Type 0) : Type 0 where
  pub from : A
  pub to : A

module _ {A : Type 0} where
  -- the last of x ∷ xs
  abbrev pub last_of : A → List A → A
  last_of x [] = x
  last_of x (y ∷ xs) = last_of y xs

  -- "from each to the next"
  unfoldable pub steps_along : List A → List (Step A)
  steps_along [] = []
  steps_along (x ∷ []) = []
  steps_along (x ∷ y ∷ xs) = record { from = x; to = y } ∷ steps_along (y ∷ xs)

  -- "and from the last to the first"
  unfoldable pub steps_round : List A → List (Step A)
  steps_round [] = []
  steps_round (x ∷ xs) = steps_along (x ∷ xs) ++ (record { from = last_of x xs; to = x } ∷ [])

-- 01, "Programs and slips to shut out": "Step counts take two positions as one when their coordinates are equal as numbers", here when they are `same`.
module _ {A : Type 0} (same : A → A → Bool) where
  -- how many of the steps lead from a to b
  unfoldable pub count : A → A → List (Step A) → ℕ
  count a b [] = 0
  count a b (s ∷ steps) = cond (same s.from a && same s.to b) 1 0 + count a b steps

  -- the steps from a to b, less the steps back
  unfoldable pub net_of : A → A → List (Step A) → ℤ
  net_of a b steps = pos (count a b steps) -ℤ pos (count b a steps)

  -- of the steps round a list: the step count of demand 3
  unfoldable pub net : A → A → List A → ℤ
  net a b xs = net_of a b (steps_round xs)

-- What the laws ask of `same`. It need not be reflexive: a position with a NaN is `same` as none, not even as itself.
pub record PartialEquivalence {A : Type 0} (same : A → A → Bool) : Type 0 where
  pub symmetric : (x y : A) → same x y ≡ true → same y x ≡ true
  pub transitive : (x y z : A) → same x y ≡ true → same y z ≡ true → same x z ≡ true
