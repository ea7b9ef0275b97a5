-- The stable sort that `merge_even` does first: each real is put before the first later one that is not less.
use Rattle.std.specs.Prelude.{Bool, true, cond, ◌&&◌, List, [], ◌∷◌, Float}
use Rattle.std.specs.Float.Ieee.{le, lt}

abbrev pub insert : Float → List Float → List Float
insert x [] = x ∷ []
insert x (y ∷ ys) = cond (lt y x) (y ∷ insert x ys) (x ∷ y ∷ ys)

abbrev pub sorted : List Float → List Float
sorted [] = []
sorted (x ∷ xs) = insert x (sorted xs)

-- x, then xs: each is at most the next
abbrev pub rising_from : Float → List Float → Bool
rising_from x [] = true
rising_from x (y ∷ ys) = le x y && rising_from y ys

-- a list that never falls
abbrev pub rising : List Float → Bool
rising [] = true
rising (x ∷ xs) = rising_from x xs
