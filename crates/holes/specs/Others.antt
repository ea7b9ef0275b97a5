-- 01, "Bands": "A hole is a loop that does not wrap". Of the loops of a face, in parallel lists, all but the two rings.
use Rattle.std.specs.Prelude.{ℕ, suc, Bool, cond, ◌||◌, List, [], ◌∷◌, eqb}

-- the loops are numbered in file order; a and b are the rings' numbers
abbrev pub is_ring : ℕ → ℕ → ℕ → Bool
is_ring a b i = eqb i a || eqb i b

-- of the elements, one for each loop from number i on, those of the other loops, in order
unfoldable pub others_from : {A : Type 0} → ℕ → ℕ → ℕ → List A → List A
others_from a b i [] = []
others_from a b i (x ∷ xs) = let rest = others_from a b (suc i) xs in cond (is_ring a b i) rest (x ∷ rest)

abbrev pub others : {A : Type 0} → ℕ → ℕ → List A → List A
others a b xs = others_from a b 0 xs
