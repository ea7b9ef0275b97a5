-- What a search over the loops of a face answers, where each loop is asked by its points and by the total up to its end.
use Rattle.std.specs.Prelude.{◌≡◌, ℕ, suc, ◌<◌, Bool, List, Option}
use Rattle.records.specs.Face.{loops, count, start}
use Rattle.records.specs.Refusals.{first_where}
use Rattle.records.specs.Answers.{place_of}

module _ (says : ℕ → ℕ → Bool → Type 0) (s : List ℕ) where
  -- whatever is said of a loop is what the test says
  abbrev pub Decides : (ℕ → Bool) → Type 0
  Decides test = (k : ℕ) (refused : Bool) → k < loops s → says (count s k) (start s (suc k)) refused → refused ≡ test k

  -- the first loop at which such a test is true
  abbrev pub FirstLoop : Option ℕ → Type 0
  FirstLoop place = (test : ℕ → Bool) → Decides test → place_of place ≡ first_where (loops s) test
