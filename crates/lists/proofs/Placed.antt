-- What holds of a list put into another.
use Prim.Native.Nat.{ℕ, suc, ◌+◌, ◌-◌, ◌≤◌, ◌<◌}
use mathlib.Core.Path.{◌≡◌, refl, sym, ap, ◌∙◌}
use mathlib.Core.Bool.{Bool, true, false, cond}
use mathlib.Core.List.{List, [], ◌∷◌, ◌++◌, append_assoc, append-nil}
use native.Mathlib.Nat.{zero-add, add-zero, add_assoc}
use native.Mathlib.Numerals.{add-one}
use native.Mathlib.Omega.{arith}
use borrow.Author.Tests.{le-leb, lt-leb, leb-true}
use lib.Dec.{leb}
use lib.ListN.{length, take, drop, get_or, set, length-append, length-drop, take-append-drop, drop_of_length-le}
use lib.Seq.{length-take-le, take_at, drop_at, drop-drop, drop-cons, set_at, append_snoc}
use Rattle.lists.specs.Placed.{placed}

module _ {A : Type 0} (at : ℕ) (w d : List A) where
  pub placed-fits : at + length w ≤ length d → placed at w d ≡ take at d ++ w ++ drop (at + length w) d
  unfolding placed
  placed-fits h = rw (le-leb (at + length w) (length d) h)

  pub placed_short : length d < at + length w → placed at w d ≡ d
  unfolding placed
  placed_short h = rw (lt-leb (at + length w) (length d) h)

  length-head : at ≤ length d → length (take at d ++ w) ≡ at + length w
  length-head h = length-append (take at d) w ∙ ap (λ (k : ℕ). k + length w) (length-take-le at d h)

  pub length-placed : length (placed at w d) ≡ length d
  unfolding placed
  length-placed = by_room (leb (at + length w) (length d)) refl
    where
      by_room : (t : Bool) → leb (at + length w) (length d) ≡ t → length (cond t (take at d ++ w ++ drop (at + length w) d) d) ≡ length d
      by_room false e = refl
      by_room true e =
          let h : at + length w ≤ length d = leb-true (at + length w) (length d) e in
          let head = length-head (omega arith) in
          length-append (take at d ++ w) (drop (at + length w) d) ∙ (let rest = length-drop (at + length w) d in omega arith)

  pub take-placed : at + length w ≤ length d → take (at + length w) (placed at w d) ≡ take at d ++ w
  take-placed h =
      ap (take (at + length w)) (placed-fits h) ∙ take_at (take at d ++ w) (drop (at + length w) d) (at + length w) (length-head (omega arith))

  pub drop-placed : at + length w ≤ length d → drop (at + length w) (placed at w d) ≡ drop (at + length w) d
  drop-placed h =
      ap (drop (at + length w)) (placed-fits h) ∙ drop_at (take at d ++ w) (drop (at + length w) d) (at + length w) (length-head (omega arith))

module _ {A : Type 0} where
  -- into the front: what is lent shows w, and then what it held
  pub front-placed : (w d : List A) → length w ≤ length d → take (length w) (placed 0 w d) ≡ w
  front-placed w d h = rw (zero-add (length w)) at (take-placed 0 w d (omega arith))

  pub placed-none : (at : ℕ) (d : List A) → placed at [] d ≡ d
  unfolding placed
  placed-none at d = by_room (leb (at + 0) (length d))
    where
      by_room : (t : Bool) → cond t (take at d ++ [] ++ drop (at + 0) d) d ≡ d
      by_room false = refl
      by_room true = rw (add-zero at, append-nil (take at d)) (take-append-drop at d)

  -- a front of d grows by one element
  pub front_grows : (p d : List A) (m : ℕ) (a : A) → length p ≡ m → m < length d → set (p ++ drop m d) m a ≡ p ++ (a ∷ []) ++ drop (m + 1) d
  front_grows p d m a e h =
      ap (λ (l : List A). set (p ++ l) m a) (drop-cons d m a h) ∙ set_at p (get_or d m a) (drop (suc m) d) a m e
      ∙ sym (append_snoc p a (drop (suc m) d)) ∙ ap (λ (k : ℕ). p ++ (a ∷ []) ++ drop k d) (sym (add-one m))

  pub placed_grows : (w d : List A) (m : ℕ) (a : A) → length w ≡ m → m < length d → set (placed 0 w d) m a ≡ placed 0 (w ++ (a ∷ [])) d
  placed_grows w d m a e h =
      let n : length (w ++ (a ∷ [])) ≡ m + 1 = length-append w (a ∷ []) ∙ ap (λ (k : ℕ). k + 1) e in
      let before : 0 + length w ≡ m = omega arith in
      let after : m + 1 ≡ 0 + length (w ++ (a ∷ [])) = omega arith in
      ap (λ (l : List A). set l m a) (placed-fits 0 w d (omega arith) ∙ ap (λ (k : ℕ). w ++ drop k d) before)
      ∙ front_grows w d m a e h ∙ ap (λ (k : ℕ). w ++ (a ∷ []) ++ drop k d) after ∙ sym (placed-fits 0 (w ++ (a ∷ [])) d (omega arith))

  -- a list as long as d takes its place
  pub placed_whole : (w d : List A) → length w ≡ length d → placed 0 w d ≡ w
  placed_whole w d e =
      let all : length d ≤ 0 + length w = omega arith in
      placed-fits 0 w d (omega arith) ∙ ap (λ (l : List A). w ++ l) (drop_of_length-le d all) ∙ append-nil w

  -- two stretches, one after the other, are one
  pub placed_after : (at : ℕ) (v w d : List A) → at + length v + length w ≤ length d → placed (at + length v) w (placed at v d) ≡ placed at (v ++ w) d
  placed_after at v w d h =
      placed-fits (at + length v) w (placed at v d) (rw (length-placed at v d) h)
      ∙ (λ i. take-placed at v d (omega arith) i ++ w ++ rest i)
      ∙ ap (λ (l : List A). l ++ drop (at + length (v ++ w)) d) (append_assoc (take at d) v w)
      ∙ sym (placed-fits at (v ++ w) d (let n = length-append v w in omega arith))
    where
      rest : drop (at + length v + length w) (placed at v d) ≡ drop (at + length (v ++ w)) d
      rest =
          sym (drop-drop (length w) (at + length v) (placed at v d)) ∙ ap (drop (length w)) (drop-placed at v d (omega arith))
          ∙ drop-drop (length w) (at + length v) d
          ∙ ap (λ (k : ℕ). drop k d) (add_assoc at (length v) (length w) ∙ ap (λ (k : ℕ). at + k) (sym (length-append v w)))

-- ---- what was put is read back or changed where it stands

module _ {A : Type 0} (at e : ℕ) (w d : List A) (end_is : at + length w ≡ e) (room : e ≤ length d) where
  parts : placed at w d ≡ take at d ++ (w ++ drop (at + length w) d)
  parts = placed-fits at w d (omega arith) ∙ append_assoc (take at d) w (drop (at + length w) d)

  head : length (take at d) ≡ at
  head = length-take-le at d (omega arith)

  pub read_placed : take (e - at) (drop at (placed at w d)) ≡ w
  read_placed =
      ap (λ (l : List A). take (e - at) (drop at l)) parts
      ∙ ap (take (e - at)) (drop_at (take at d) (w ++ drop (at + length w) d) at head)
      ∙ take_at w (drop (at + length w) d) (e - at) (omega arith)

  pub before_placed : take at (placed at w d) ≡ take at d
  before_placed = ap (take at) parts ∙ take_at (take at d) (w ++ drop (at + length w) d) at head
