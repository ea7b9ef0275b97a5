-- A list cut into pieces of given lengths, one behind the other. Where the lengths run past the end, a piece is what is left.
use Rattle.std.specs.Prelude.{ℕ, List, [], ◌∷◌, ◌++◌, take, drop}

module _ {A : Type 0} where
  unfoldable pub pieces : List ℕ → List A → List (List A)
  pieces [] xs = []
  pieces (n ∷ ns) xs = take n xs ∷ pieces ns (drop n xs)

  -- f done to each piece, and what lies behind the last as it is
  unfoldable pub map_pieces : (List A → List A) → List ℕ → List A → List A
  map_pieces f [] xs = xs
  map_pieces f (n ∷ ns) xs = f (take n xs) ++ map_pieces f ns (drop n xs)
