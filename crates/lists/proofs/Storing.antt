-- A loop that stores a list element by element from some place on, as many as there is room for.
use Prim.Native.Nat.{ℕ, suc, ◌+◌, ◌<◌}
use mathlib.Core.Path.{◌≡◌}
use mathlib.Core.List.{List, [], ◌∷◌, ◌++◌}
use native.Mathlib.Omega.{arith}
use native.Mathlib.Numerals.{add-one}
use lib.ListN.{length, take, get_or, set}
use lib.Seq.{sets, take-suc, length-take-le}

module _ {A : Type 0} where
  pub sets-append : (l : List A) (i j : ℕ) (vs ws : List A) → j ≡ i + length vs → sets (sets l i vs) j ws ≡ sets l i (vs ++ ws)
  sets-append l i j [] ws h = let e : j ≡ i = omega arith in rw e
  sets-append l i j (v ∷ vs) ws h = sets-append (set l i v) (suc i) j vs ws (omega arith)

  -- one element more, wherever the list ends
  pub stored_more : (z : A) (w d : List A) (a i : ℕ) → i < length w → set (sets d a (take i w)) (a + i) (get_or w i z) ≡ sets d a (take (i + 1) w)
  stored_more z w d a i h =
      let m : a + i ≡ a + length (take i w) = let t = length-take-le i w (omega arith) in omega arith in
      rw (add-one, take-suc w i z h) (sets-append d a (a + i) (take i w) (get_or w i z ∷ []) m)
