-- A reversed list by the index.
use Prim.Native.Nat.{ℕ, zero, suc, ◌+◌, ◌<◌}
use mathlib.Core.Path.{◌≡◌, refl, ap, ◌∙◌}
use mathlib.Core.List.{List, [], ◌∷◌, reverse, reverse-cons}
use native.Mathlib.Omega.{arith}
use lib.ListN.{length, get_or, length-reverse, get_or-append}
use lib.Seq.{get_or_at}

module _ {A : Type 0} where
  pub get_d_reverse : (l : List A) (i j : ℕ) (z : A) → i + j + 1 ≡ length l → get_or (reverse l) i z ≡ get_or l j z
  get_d_reverse [] i j z h = refl
  get_d_reverse (x ∷ l) i zero z h =
      let e : length (reverse l) ≡ i = length-reverse l ∙ omega arith in
      ap (λ (m : List A). get_or m i z) (reverse-cons x l) ∙ get_or_at (reverse l) x [] z i e
  get_d_reverse (x ∷ l) i (suc j) z h =
      let k : i < length (reverse l) = omega (arith, length-reverse l) in
      ap (λ (m : List A). get_or m i z) (reverse-cons x l) ∙ get_or-append (reverse l) (x ∷ []) z i k ∙ get_d_reverse l i j z (omega arith)
