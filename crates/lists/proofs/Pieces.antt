-- Loops over the pieces of a list: each begins where the one before it ended.
use Prim.Native.Nat.{ℕ, zero, suc, ◌+◌, ◌-◌, ◌≤◌, ◌<◌, min}
use mathlib.Core.Path.{◌≡◌, refl, sym, ap, ◌∙◌}
use mathlib.Core.List.{List, [], ◌∷◌, ◌++◌, map, flatten, append_assoc}
use native.Mathlib.Nat.{zero-min, min-zero, suc-min-suc}
use native.Mathlib.Numerals.{add-one}
use native.Mathlib.Omega.{arith}
use lib.ListN.{length, get_or, take, drop, length-append, length-take, length-drop, take-append-drop, drop_of_length-le}
use lib.Seq.{drop-cons, drop-drop}
use Rattle.lists.specs.Parts.{on_part}
use Rattle.lists.specs.Pieces.{pieces, map_pieces}
use Rattle.lists.proofs.Parts.{on_part_lem}

module _ {A : Type 0} where
  -- n of them, or as many as there are
  pub take-most : (n : ℕ) (xs : List A) → take (min n (length xs)) xs ≡ take n xs
  take-most zero xs = rw (zero-min (length xs))
  take-most (suc n) [] = rw (min-zero (suc n))
  take-most (suc n) (x ∷ xs) = rw (suc-min-suc n (length xs)) (ap (λ (l : List A). x ∷ l) (take-most n xs))

  pub drop-most : (n : ℕ) (xs : List A) → drop (min n (length xs)) xs ≡ drop n xs
  drop-most zero xs = rw (zero-min (length xs))
  drop-most (suc n) [] = rw (min-zero (suc n))
  drop-most (suc n) (x ∷ xs) = rw (suc-min-suc n (length xs)) (drop-most n xs)

  pub length-pieces : (ns : List ℕ) (xs : List A) → length (pieces ns xs) ≡ length ns
  unfolding pieces
  length-pieces [] xs = refl
  length-pieces (n ∷ ns) xs = ap suc (length-pieces ns (drop n xs))

  pub no-pieces : (ns : List ℕ) (xs : List A) → length ns ≡ 0 → pieces ns xs ≡ []
  unfolding pieces
  no-pieces [] xs e = refl
  no-pieces (n ∷ ns) xs e = absurd (omega (arith, e))

  -- together they are no longer than the list
  pub pieces_fit : (ns : List ℕ) (xs : List A) → length (flatten (pieces ns xs)) ≤ length xs
  unfolding pieces flatten
  pieces_fit [] xs = omega arith
  pieces_fit (n ∷ ns) xs =
      let behind = pieces_fit ns (drop n xs) in
      omega (arith, behind, length-append (take n xs) (flatten (pieces ns (drop n xs))), length-take n xs, length-drop n xs)

  -- the piece of n elements from `from` on ends at `to`
  next_piece : (n : ℕ) (ns : List ℕ) (xs : List A) (from to : ℕ) → from ≤ length xs → to ≡ min (from + n) (length xs)
      → pieces (n ∷ ns) (drop from xs) ≡ take (to - from) (drop from xs) ∷ pieces ns (drop to xs)
  unfolding pieces
  next_piece n ns xs from to low e = λ k. front k ∷ pieces ns (behind k)
    where
      count : to - from ≡ min n (length (drop from xs))
      count = let l = length-drop from xs in omega arith

      front : take n (drop from xs) ≡ take (to - from) (drop from xs)
      front = sym (ap (λ (k : ℕ). take k (drop from xs)) count ∙ take-most n (drop from xs))

      behind : drop n (drop from xs) ≡ drop to xs
      behind = drop-drop n from xs ∙ sym (ap (λ (k : ℕ). drop k xs) e ∙ drop-most (from + n) xs)

  -- ---- the pieces of a list whose pieces were changed

  -- what is as long as the front of a list and what is as long as its rest are told apart as they are
  halves : (n : ℕ) (xs a b : List A) → length a ≡ length (take n xs) → length b ≡ length (drop n xs) → (take n (a ++ b) ≡ a) × (drop n (a ++ b) ≡ b)
  halves zero xs [] b ha hb = (refl, refl)
  halves zero xs (y ∷ a) b ha hb = absurd (omega arith)
  halves (suc n) [] [] [] ha hb = (refl, refl)
  halves (suc n) [] [] (y ∷ b) ha hb = absurd (omega arith)
  halves (suc n) [] (y ∷ a) b ha hb = absurd (omega arith)
  halves (suc n) (x ∷ xs) [] b ha hb = absurd (omega arith)
  halves (suc n) (x ∷ xs) (y ∷ a) b ha hb = let h = halves n xs a b (omega arith) hb in (ap (λ (l : List A). y ∷ l) h.0, h.1)

  module _ (f : List A → List A) (same : (l : List A) → length (f l) ≡ length l) where
    pub length-map_pieces : (ns : List ℕ) (xs : List A) → length (map_pieces f ns xs) ≡ length xs
    unfolding map_pieces
    length-map_pieces [] xs = refl
    length-map_pieces (n ∷ ns) xs =
        length-append (f (take n xs)) (map_pieces f ns (drop n xs)) ∙ (λ i. same (take n xs) i + length-map_pieces ns (drop n xs) i)
        ∙ sym (length-append (take n xs) (drop n xs)) ∙ ap length (take-append-drop n xs)

    pub pieces_mapped : (ns : List ℕ) (xs : List A) → pieces ns (map_pieces f ns xs) ≡ map f (pieces ns xs)
    unfolding pieces map_pieces
    pieces_mapped [] xs = refl
    pieces_mapped (n ∷ ns) xs =
        let h = halves n xs (f (take n xs)) (map_pieces f ns (drop n xs)) (same (take n xs)) (length-map_pieces ns (drop n xs)) in
        (λ i. h.0 i ∷ pieces ns (h.1 i)) ∙ ap (λ (l : List (List A)). f (take n xs) ∷ l) (pieces_mapped ns (drop n xs))

  -- ---- a loop that reads them

  pub record Cutting (ns : List ℕ) (xs : List A) (from i : ℕ) : Type 0 where
    pub far : i ≤ length ns
    pub low : from ≤ length xs
    pub is : drop i (pieces ns xs) ≡ pieces (drop i ns) (drop from xs)

  module _ (ns : List ℕ) (xs : List A) where
    pub cutting : Cutting ns xs 0 0
    cutting = record { far = omega arith; low = omega arith; is = refl }

    module _ (from to i : ℕ) (c : Cutting ns xs from i) (h : i < length ns) (e : to ≡ min (from + get_or ns i 0) (length xs)) where
      cut : get_or (pieces ns xs) i [] ∷ drop (suc i) (pieces ns xs) ≡ take (to - from) (drop from xs) ∷ pieces (drop (suc i) ns) (drop to xs)
      cut =
          sym (drop-cons (pieces ns xs) i [] (let l = length-pieces ns xs in omega arith)) ∙ c.is
          ∙ ap (λ (l : List ℕ). pieces l (drop from xs)) (drop-cons ns i 0 h) ∙ next_piece (get_or ns i 0) (drop (suc i) ns) xs from to c.low e

      pub cutting_piece : get_or (pieces ns xs) i [] ≡ take (to - from) (drop from xs)
      cutting_piece = ap (λ (l : List (List A)). get_or l 0 []) cut

      pub cutting_turn : Cutting ns xs to (i + 1)
      cutting_turn = record { far = omega arith; low = omega arith; is = rw (add-one) (ap (drop 1) cut) }

  -- ---- a loop that does f to each where it stands

  module _ (f : List A → List A) where
    map-none : (xs : List A) → map_pieces f [] xs ≡ xs
    unfolding map_pieces
    map-none xs = refl

    map_first : (n : ℕ) (ns : List ℕ) (xs : List A) → map_pieces f (n ∷ ns) xs ≡ f (take n xs) ++ map_pieces f ns (drop n xs)
    unfolding map_pieces
    map_first n ns xs = refl

    pub record Piecing (ns : List ℕ) (xs₀ xs : List A) (from i : ℕ) : Type 0 where
      pub done : List A
      pub rest : List A
      pub is : xs ≡ done ++ rest
      pub goal : map_pieces f ns xs₀ ≡ done ++ map_pieces f (drop i ns) rest
      pub at : length done ≡ from
      pub far : i ≤ length ns
      pub low : from ≤ length xs
      pub long : length xs ≡ length xs₀

    pub piecing : (ns : List ℕ) (xs : List A) → Piecing ns xs xs 0 0
    piecing ns xs =
        record { done = []; rest = xs; is = refl; goal = refl; at = refl; far = omega arith; low = omega arith; long = refl }

    pub piecing_turn : (same : (l : List A) → length (f l) ≡ length l) (ns : List ℕ) (xs₀ xs xs' : List A) (from to i : ℕ) → Piecing ns xs₀ xs from i → i < length ns
        → to ≡ min (from + get_or ns i 0) (length xs) → xs' ≡ on_part f from to xs → Piecing ns xs₀ xs' to (i + 1)
    piecing_turn same ns xs₀ xs xs' from to i p h e d = record {
      done = p.done ++ f here;
      rest = behind;
      is = now ∙ sym (append_assoc p.done (f here) behind);
      goal = rw (add-one i) (p.goal ∙ ap (λ (l : List ℕ). p.done ++ map_pieces f l p.rest) (drop-cons ns i 0 h)
          ∙ ap (λ (l : List A). p.done ++ l) (map_first n (drop (suc i) ns) p.rest) ∙ sym (append_assoc p.done (f here) (map_pieces f (drop (suc i) ns) behind)));
      at = length-append p.done (f here) ∙ (let a = p.at in let s = same here in let c = count in omega arith);
      far = omega arith;
      low = let l = long in omega arith;
      long = long ∙ p.long;
    }
      where
        n : ℕ
        n = get_or ns i 0

        here : List A
        here = take n p.rest

        behind : List A
        behind = drop n p.rest

        whole : xs ≡ p.done ++ (here ++ behind)
        whole = p.is ∙ ap (λ (l : List A). p.done ++ l) (sym (take-append-drop n p.rest))

        count : from + length here ≡ to
        count =
            let l : length xs ≡ length p.done + length p.rest = ap length p.is ∙ length-append p.done p.rest in
            let a = p.at in
            let t = length-take n p.rest in
            omega arith

        now : xs' ≡ p.done ++ (f here ++ behind)
        now = d ∙ ap (on_part f from to) whole ∙ on_part_lem f p.done here behind from to p.at count

        long : length xs' ≡ length xs
        long =
            ap length now ∙ length-append p.done (f here ++ behind) ∙ ap (λ (k : ℕ). length p.done + k) (length-append (f here) behind ∙ ap (λ (k : ℕ). k + length behind) (same here) ∙ sym (length-append here behind))
            ∙ sym (length-append p.done (here ++ behind)) ∙ sym (ap length whole)

    pub piecing_end : (ns : List ℕ) (xs₀ xs : List A) (from i : ℕ) → Piecing ns xs₀ xs from i → length ns ≤ i → xs ≡ map_pieces f ns xs₀
    piecing_end ns xs₀ xs from i p h =
        p.is ∙ sym (p.goal ∙ ap (λ (l : List ℕ). p.done ++ map_pieces f l p.rest) (drop_of_length-le ns h) ∙ ap (λ (l : List A). p.done ++ l) (map-none p.rest))
