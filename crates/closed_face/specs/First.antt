-- 01, "Closed faces": the outer loop comes first, and "Holes keep their order".
use Rattle.std.specs.Prelude.{ℕ, ◌+◌, List, ◌++◌, take, drop}
use Rattle.lists.specs.Parts.{part_of}

-- a part of a list moved to the front, with the rest in its order
unfoldable pub part_first : {A : Type 0} → ℕ → ℕ → List A → List A
part_first start count xs = part_of start count xs ++ (take start xs ++ drop (start + count) xs)
