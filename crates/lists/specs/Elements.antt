-- What holds of every element, the elements that pass a test, and the sum of numbers.
use Rattle.std.specs.Prelude.{ℕ, ◌+◌, Bool, cond, List, [], ◌∷◌}

-- P holds of each element
pub data All {A : Type 0} (P : A → Type 0) : List A → Type 0 where
  none : All P []
  and : {a : A} {l : List A} → P a → All P l → All P (a ∷ l)

-- the elements that pass, in order
unfoldable pub only : {A : Type 0} → (A → Bool) → List A → List A
only p [] = []
only p (x ∷ xs) = cond (p x) (x ∷ only p xs) (only p xs)

unfoldable pub sum : List ℕ → ℕ
sum [] = 0
sum (n ∷ ns) = n + sum ns
