-- Rings turned and repeats dropped, seen at one part g of each corner: what is done to the corners is done to that part.
use Prim.Native.Nat.{ℕ}
use mathlib.Core.Path.{◌≡◌, refl, ap, ◌∙◌}
use mathlib.Core.Bool.{Bool, true, false, cond, ◌&&◌}
use mathlib.Core.List.{List, [], ◌∷◌, ◌++◌, map, map-append, reverse, drop_last}
use lib.Dec.{ltb}
use lib.ListN.{length, take, drop, length-map}
use Rattle.lists.proofs.Maps.{map-take, map-drop, map-reverse, map-drop_last}
use Rattle.loops.specs.Repeats.{kept_from, cut_back, drop_successive, drop_trailing, drop_merging, drop_repeats, keep}
use Rattle.loops.specs.Rings.{begun, closed, turned}

module _ {A B : Type 0} (g : A → B) where
  -- ---- rings: `again` on a corner is `again'` on its part

  module _ (again : A → A) (again' : B → B) (e : (x : A) → g (again x) ≡ again' (g x)) where
    map-again : (xs : List A) → map g (map again xs) ≡ map again' (map g xs)
    map-again [] = refl
    map-again (x ∷ xs) = λ i. e x i ∷ map-again xs i

    pub map-begun : (k : ℕ) (xs : List A) → map g (begun again k xs) ≡ begun again' k (map g xs)
    unfolding begun
    map-begun k xs =
        map-append g (drop k xs) (map again (take k xs))
        ∙ (λ i. map-drop g k xs i ++ (map-again (take k xs) ∙ ap (map again') (map-take g k xs)) i)

    pub map-closed : (xs : List A) → map g (closed again xs) ≡ closed again' (map g xs)
    unfolding closed
    map-closed [] = refl
    map-closed (x ∷ xs) = map-append g (x ∷ xs) (again x ∷ []) ∙ ap (λ (y : B). map g (x ∷ xs) ++ (y ∷ [])) (e x)

    pub map_turned : (k : ℕ) (xs : List A) → map g (turned again k xs) ≡ turned again' k (map g xs)
    unfolding turned
    map_turned k xs =
        map-closed (begun again k (drop_last xs))
        ∙ ap (closed again') (map-begun k (drop_last xs) ∙ ap (begun again' k) (map-drop_last g xs))

  -- ---- repeats: corners are compared by that part, and merging two corners merges their parts

  map-cond : (t : Bool) (xs ys : List A) {xs' ys' : List B} → map g xs ≡ xs' → map g ys ≡ ys' → map g (cond t xs ys) ≡ cond t xs' ys'
  map-cond true xs ys e f = e
  map-cond false xs ys e f = f

  module _ (same : B → B → Bool) (merge : A → A → A) (merge' : B → B → B)
      (e : (kept x : A) → g (merge kept x) ≡ merge' (g kept) (g x)) where
    abbrev by_part : A → A → Bool
    by_part x y = same (g x) (g y)

    map-kept_from : (xs : List A) (kept : A) → map g (kept_from by_part merge kept xs) ≡ kept_from same merge' (g kept) (map g xs)
    unfolding kept_from
    map-kept_from [] kept = refl
    map-kept_from (x ∷ xs) kept =
        map-cond (same (g kept) (g x)) (kept_from by_part merge (merge kept x) xs) (kept ∷ kept_from by_part merge x xs)
        (map-kept_from xs (merge kept x) ∙ ap (λ (k : B). kept_from same merge' k (map g xs)) (e kept x))
        (ap (λ (l : List B). g kept ∷ l) (map-kept_from xs x))

    map_successive : (xs : List A) → map g (drop_successive by_part merge xs) ≡ drop_successive same merge' (map g xs)
    unfolding drop_successive
    map_successive [] = refl
    map_successive (x ∷ xs) = map-kept_from xs x

    map-cut_back : (back : List A) (first : A) → map g (cut_back by_part merge first back) ≡ cut_back same merge' (g first) (map g back)
    unfolding cut_back
    map-cut_back [] first = refl
    map-cut_back (x ∷ back) first = rw (length-map back g) (
        map-cond (ltb 3 (length (first ∷ x ∷ back)) && same (g first) (g x)) (cut_back by_part merge (merge first x) back) (first ∷ reverse (x ∷ back))
        (map-cut_back back (merge first x) ∙ ap (λ (k : B). cut_back same merge' k (map g back)) (e first x))
        (ap (λ (l : List B). g first ∷ l) (map-reverse g (x ∷ back))))

    map_trailing : (xs : List A) → map g (drop_trailing by_part merge xs) ≡ drop_trailing same merge' (map g xs)
    unfolding drop_trailing
    map_trailing [] = refl
    map_trailing (x ∷ xs) = map-cut_back (reverse xs) x ∙ ap (cut_back same merge' (g x)) (map-reverse g xs)

    pub map-drop_merging : (xs : List A) → map g (drop_merging by_part merge xs) ≡ drop_merging same merge' (map g xs)
    unfolding drop_merging
    map-drop_merging xs = map_trailing (drop_successive by_part merge xs) ∙ ap (drop_trailing same merge') (map_successive xs)

-- A merge that changes nothing that `same` sees leaves the positions that are left without it.
pub map-drop_repeats : {A B : Type 0} (at : A → B) (same : B → B → Bool) (merge : A → A → A)
    → ((kept x : A) → at (merge kept x) ≡ at kept) → (xs : List A)
    → map at (drop_merging (λ x y. same (at x) (at y)) merge xs) ≡ drop_repeats same (map at xs)
map-drop_repeats at same merge e xs = map-drop_merging at same merge keep e xs
