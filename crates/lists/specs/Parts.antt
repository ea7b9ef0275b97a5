-- A part of a list, and a list changed at a place or in a part.
use Rattle.std.specs.Prelude.{ℕ, ◌-◌, List, ◌++◌, get_or, set, take, drop}

module _ {A : Type 0} where
  -- the elements from start on, count of them or as many as there are
  unfoldable pub part_of : ℕ → ℕ → List A → List A
  part_of start count xs = take count (drop start xs)

  -- f of the elements from a up to e, with the rest as it was
  unfoldable pub on_part : (List A → List A) → ℕ → ℕ → List A → List A
  on_part f a e xs = take a xs ++ (f (take (e - a) (drop a xs)) ++ drop (e - a) (drop a xs))

  -- the elements at i and j exchanged; z is read past the end
  unfoldable pub swapped : A → ℕ → ℕ → List A → List A
  swapped z i j xs = set (set xs i (get_or xs j z)) j (get_or xs i z)
