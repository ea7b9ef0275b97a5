-- A loop that folds a list from its front: after i turns b holds the first i elements.
use Prim.Native.Nat.{ℕ, ◌+◌, ◌≤◌, ◌<◌}
use mathlib.Core.Path.{◌≡◌, refl}
use mathlib.Core.List.{List, foldl}
use native.Mathlib.Omega.{arith}
use native.Mathlib.Numerals.{add-one}
use lib.ListN.{length, drop, get_or, drop_of_length-le}
use lib.Seq.{drop-cons}

module _ {A B : Type 0} (f : B → A → B) (b₀ : B) (xs : List A) where
  pub record Folding (b : B) (i : ℕ) : Type 0 where
    pub far : i ≤ length xs
    pub is : foldl f b (drop i xs) ≡ foldl f b₀ xs

  pub folding : Folding b₀ 0
  folding = record { far = omega arith; is = refl }

  pub folding_turn : (z : A) (b b' : B) (i : ℕ) → Folding b i → i < length xs → b' ≡ f b (get_or xs i z) → Folding b' (i + 1)
  folding_turn z b b' i k h e = record { far = omega arith; is = rw (add-one, e) (rw (drop-cons xs i z) at k.is) }

  pub folding_end : (b : B) (i : ℕ) → Folding b i → length xs ≤ i → b ≡ foldl f b₀ xs
  folding_end b i k h = rw (drop_of_length-le xs {i = i}) at k.is
