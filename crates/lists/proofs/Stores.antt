-- A run of stores into a list, `sets`: two runs, one behind the other; where the list has room for a part of them only, or is a part of a longer one.
use Prim.Native.Nat.{ℕ, zero, suc, ◌+◌, ◌-◌, ◌≤◌, ◌<◌}
use mathlib.Core.Path.{◌≡◌, refl, sym, ap, ◌∙◌}
use mathlib.Core.List.{List, [], ◌∷◌, ◌++◌}
use native.Mathlib.Omega.{arith}
use lib.Dec.{ltb}
use lib.ListN.{length, get_or, take, drop, set, length-take, length-set, take-append-drop, get_or-append}
use lib.Seq.{sets, length-sets, get_or-take, sets-eq, set_out, take-nil, take-set-lt, drop-set-lt}
use borrow.Author.Tests.{ltb-true, ltb-false}
use mathlib.Core.Bool.{Bool, true, false}

module _ {A : Type 0} where
  -- one run behind another
  pub sets-append : (l : List A) (i j : ℕ) (vs ws : List A) → j ≡ i + length vs → sets (sets l i vs) j ws ≡ sets l i (vs ++ ws)
  sets-append l i j [] ws e = let f : j ≡ i = omega arith in rw f
  sets-append l i j (v ∷ vs) ws e = sets-append (set l i v) (suc i) j vs ws (omega arith)

  -- stores past the end do nothing
  pub sets-past : (l : List A) (i : ℕ) (vs : List A) → length l ≤ i → sets l i vs ≡ l
  sets-past l i [] h = refl
  sets-past l i (v ∷ vs) h = let k : length l ≤ suc i = omega arith in rw (set_out l i v h) (sets-past l (suc i) vs k)

  pub sets-room : (l : List A) (i j : ℕ) (vs : List A) → length l ≤ i + j → sets l i (take j vs) ≡ sets l i vs
  sets-room l i zero vs h = let k : length l ≤ i = omega arith in sym (sets-past l i vs k)
  sets-room l i (suc j) [] h = refl
  sets-room l i (suc j) (v ∷ vs) h = let k : length (set l i v) ≤ suc i + j = omega (arith, length-set l i v) in sets-room (set l i v) (suc i) j vs k

  -- a part that was lent and comes back
  pub sets_part : (m : ℕ) (l : List A) (i : ℕ) (vs : List A) → sets (take m l) i vs ++ drop m l ≡ sets l i (take (m - i) vs)
  sets_part m l i [] = take-append-drop m l ∙ ap (sets l i) (sym (take-nil (m - i)))
  sets_part m l i (v ∷ vs) = go (ltb i m) refl (λ k. sets_part m k (suc i) vs)
    where
      go : (b : Bool) → ltb i m ≡ b → ((k : List A) → sets (take m k) (suc i) vs ++ drop m k ≡ sets k (suc i) (take (m - suc i) vs))
          → sets (set (take m l) i v) (suc i) vs ++ drop m l ≡ sets l i (take (m - i) (v ∷ vs))
      go true e rest =
          let h : i < m = ltb-true i m e in
          let q : m - i ≡ suc (m - suc i) = omega arith in
          rw (q, ← take-set-lt m l i v h, ← drop-set-lt m l i v h) (rest (set l i v))
      go false e rest =
          let h : m ≤ i = ltb-false i m e in
          let q : m - i ≡ 0 = omega arith in
          let p : m - suc i ≡ 0 = omega arith in
          let k : length (take m l) ≤ i = omega (arith, length-take m l) in
          rw (q, set_out (take m l) i v k) (rest l ∙ rw p)

  -- a place that is stored to
  pub sets-at : (l vs out : List A) (k : ℕ) (z : A) → out ≡ sets l 0 vs → k < length out → k < length vs → get_or out k z ≡ get_or vs k z
  sets-at l vs out k z e h i =
      let n = length l in
      let w = take n vs in
      let m = length-take n vs in
      let long : length out ≡ n = ap length e ∙ length-sets l 0 vs in
      let fits : 0 + length w ≤ length l = omega arith in
      ap (λ (x : List A). get_or x k z) (e ∙ sym (sets-room l 0 n vs (omega arith)) ∙ sets-eq w l 0 fits)
      ∙ get_or-append w (drop (0 + length w) l) z k (omega arith) ∙ get_or-take n vs k z (omega arith)
