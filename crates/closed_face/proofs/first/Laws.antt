-- A part moved to the front.
use Prim.Native.Nat.{ℕ, zero, suc, ◌+◌, ◌-◌, ◌≤◌, ◌<◌, min}
use mathlib.Core.Path.{◌≡◌, refl, sym, ap, ◌∙◌}
use mathlib.Core.Bool.{Bool, true, false, cond}
use mathlib.Core.List.{List, [], ◌∷◌, ◌++◌, append_assoc}
use native.Mathlib.Decide.{dec_le}
use native.Mathlib.Nat.{zero-add}
use native.Mathlib.Omega.{arith}
use lib.Dec.{leb}
use lib.ListN.{length, get_or, take, drop, length-append, length-take, length-drop, drop_of_length-le, get_or-append}
use lib.Seq.{take_all, drop-cons, get_or-append-add, get_or-take, get_or-drop, length-take-le}
use borrow.Author.Tests.{leb-true, leb-false}
use Rattle.lists.specs.Placed.{placed}
use Rattle.lists.proofs.Placed.{placed_short, placed_after}
use Rattle.lists.specs.Parts.{part_of}
use Rattle.closed_face.specs.First.{part_first}

module _ {A : Type 0} (start count : ℕ) (src : List A) where
  pub length_part : length (part_of start count src) ≡ min count (length src - start)
  unfolding part_of
  length_part = length-take count (drop start src) ∙ ap (min count) (length-drop start src)

  pub length-first : length (part_first start count src) ≡ length src
  unfolding part_first
  length-first =
      let p = length_part in
      let t = length-take start src in
      let d = length-drop (start + count) src in
      length-append (part_of start count src) (take start src ++ drop (start + count) src)
      ∙ ap (λ (k : ℕ). length (part_of start count src) + k) (length-append (take start src) (drop (start + count) src)) ∙ omega arith

  -- what stands behind the part
  behind : (end : ℕ) → end ≡ min (start + count) (length src) → part_of end (length src) src ≡ drop (start + count) src
  unfolding part_of
  behind end e =
      take_all (length src) (drop end src) (let d = length-drop end src in omega arith) ∙ by_room (dec_le (start + count) (length src))
    where
      by_room : Dec (start + count ≤ length src) → drop end src ≡ drop (start + count) src
      by_room (yes k) = let f : end ≡ start + count = omega arith in rw f
      by_room (no k) =
          let far : length src ≤ end = omega arith in
          let past : length src ≤ start + count = omega arith in
          drop_of_length-le src {i = end} far ∙ sym (drop_of_length-le src {i = start + count} past)

  pub no_room : (dst : List A) → length dst < length src → dst ≡ placed 0 (part_first start count src) dst
  no_room dst h = let l = length-first in sym (placed_short 0 (part_first start count src) dst (omega arith))

  -- copied in three stretches
  module _ (dst : List A) (room : length src ≤ length dst) where
    pub first_is : (first before rest d₁ d₂ d₃ : List A) → first ≡ part_of start count src → d₁ ≡ placed 0 first dst → before ≡ part_of 0 start src → d₂ ≡ placed (length first) before d₁
        → rest ≡ part_of (length first + length before) (length src) src → d₃ ≡ placed (length first + length before) rest d₂ → d₃ ≡ placed 0 (part_first start count src) dst
    unfolding part_first
    first_is first before rest d₁ d₂ d₃ p a q b r c =
        let f : length first ≡ min count (length src - start) = ap length p ∙ length_part in
        let g : length before ≡ min start (length src) = ap length before_is ∙ length-take start src in
        let rest-is : rest ≡ drop (start + count) src = r ∙ behind (length first + length before) (omega arith) in
        let h : length rest ≡ length src - (start + count) = ap length rest-is ∙ length-drop (start + count) src in
        let two : d₂ ≡ placed 0 (first ++ before) dst = b ∙ (λ i. placed (sym (zero-add (length first)) i) before (a i)) ∙ placed_after 0 first before dst (omega arith) in
        let n : length first + length before ≡ 0 + length (first ++ before) = sym (length-append first before) ∙ sym (zero-add (length (first ++ before))) in
        let three : d₃ ≡ placed 0 (first ++ before ++ rest) dst = c ∙ (λ i. placed (n i) rest (two i)) ∙ placed_after 0 (first ++ before) rest dst (let l = length-append first before in omega arith) in
        three ∙ ap (λ (l : List A). placed 0 l dst) (append_assoc first before rest) ∙ (λ i. placed 0 (p i ++ (before_is i ++ rest-is i)) dst)
      where
        before_is : before ≡ take start src
        before_is = unfold part_of in q

-- ---- one element first

-- which place of the list stands at j when the element at `first` comes first
abbrev place_at : ℕ → ℕ → ℕ
place_at first zero = first
place_at first (suc j) = cond (leb (suc j) first) j (suc j)

module _ {A : Type 0} (first : ℕ) (xs : List A) (z : A) (within : first < length xs) where
  one : part_of first 1 xs ≡ get_or xs first z ∷ []
  unfolding part_of
  one = ap (take 1) (drop-cons xs first z within)

  moved_at : (j : ℕ) → j < length xs → get_or (get_or xs first z ∷ (take first xs ++ drop (first + 1) xs)) j z ≡ get_or xs (place_at first j) z
  moved_at zero h = refl
  moved_at (suc j) h = by_place (leb (suc j) first) refl
    where
      by_place : (t : Bool) → leb (suc j) first ≡ t → get_or (take first xs ++ drop (first + 1) xs) j z ≡ get_or xs (cond t j (suc j)) z
      by_place true e =
          let low : suc j ≤ first = leb-true (suc j) first e in
          let long = length-take-le first xs (omega arith) in
          get_or-append (take first xs) (drop (first + 1) xs) z j (omega arith) ∙ get_or-take first xs j z (omega arith)
      by_place false e =
          let high : first < suc j = leb-false (suc j) first e in
          let long = length-take-le first xs (omega arith) in
          let place : j ≡ length (take first xs) + (j - first) = omega arith in
          let back : first + 1 + (j - first) ≡ suc j = omega arith in
          ap (λ (k : ℕ). get_or (take first xs ++ drop (first + 1) xs) k z) place ∙ get_or-append-add (take first xs) (drop (first + 1) xs) (j - first) z
          ∙ get_or-drop (first + 1) xs (j - first) z ∙ ap (λ (k : ℕ). get_or xs k z) back

  -- at j stands what stood at its place
  get_or-first : (j : ℕ) → j < length xs → get_or (part_first first 1 xs) j z ≡ get_or xs (place_at first j) z
  unfolding part_first
  get_or-first j h = ap (λ (l : List A). get_or (l ++ (take first xs ++ drop (first + 1) xs)) j z) one ∙ moved_at j h
