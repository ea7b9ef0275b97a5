-- Repeats dropped: 01, "Where port and Rust part", item 5, from which the quotations are.
use Rattle.std.specs.Prelude.{Bool, cond, ◌&&◌, List, [], ◌∷◌, reverse, ltb, length}

-- For any elements with a `same`. `merge kept dropped` is what the kept one becomes when a repeat of it is dropped (02, N8: whose origin it shows).
module _ {A : Type 0} (same : A → A → Bool) (merge : A → A → A) where
  -- What stays of kept ∷ xs: "a corner is dropped as a repeat when its three coordinates equal, as numbers, those of the corner kept before it".
  unfoldable pub kept_from : A → List A → List A
  kept_from kept [] = kept ∷ []
  kept_from kept (x ∷ xs) =
      let dropped = kept_from (merge kept x) xs in
      let stays = kept ∷ kept_from x xs in
      cond (same kept x) dropped stays

  unfoldable pub drop_successive : List A → List A
  drop_successive [] = []
  drop_successive (x ∷ xs) = kept_from x xs

  -- "Then corners at the end that equal the first go while more than three remain." What follows the first is read from its end.
  unfoldable pub cut_back : A → List A → List A
  cut_back first [] = first ∷ []
  cut_back first (x ∷ back) =
      let dropped = cut_back (merge first x) back in
      let stays = first ∷ reverse (x ∷ back) in
      cond (ltb 3 (length (first ∷ x ∷ back)) && same first x) dropped stays

  unfoldable pub drop_trailing : List A → List A
  drop_trailing [] = []
  drop_trailing (x ∷ xs) = cut_back x (reverse xs)

  unfoldable pub drop_merging : List A → List A
  drop_merging xs = drop_trailing (drop_successive xs)

-- Item 5 itself: the kept one stays as it is.
abbrev pub keep : {A : Type 0} → A → A → A
keep kept dropped = kept

abbrev pub drop_repeats : {A : Type 0} → (A → A → Bool) → List A → List A
drop_repeats same xs = drop_merging same keep xs
