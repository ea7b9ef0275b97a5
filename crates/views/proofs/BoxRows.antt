-- What the lists of `specs/BoxTables.antt` have to do with each other.
use Rattle.std.proofs.Common.{◌≡◌, ◌+◌, ◌*◌, ◌/◌, ◌%◌, ◌<◌, List, [], ◌∷◌, ◌++◌, length, map, refl, ap, ◌∙◌, arith, lit<}
use Rattle.std.specs.Simd.{first_chunks}
use Rattle.std.specs.Prelude.{Float}
use Rattle.closed_region.specs.BoxRows.{four_reals}
use Rattle.closed_region.specs.declared.boxes.Bounds.{Bounds}
use Rattle.views.specs.BoxTables.{boxes_of, rest_of, reals_of}

pub rest_short : (xs : List Float) → length (rest_of xs) < 4
unfolding rest_of
rest_short [] = lit< tt
rest_short (u ∷ []) = lit< tt
rest_short (u ∷ v ∷ []) = lit< tt
rest_short (u ∷ v ∷ x ∷ []) = lit< tt
rest_short (u ∷ v ∷ x ∷ y ∷ rest) = rest_short rest

pub whole_length : (xs : List Float) → length xs ≡ length (boxes_of xs) * 4 + length (rest_of xs)
unfolding boxes_of rest_of
whole_length [] = refl
whole_length (u ∷ []) = refl
whole_length (u ∷ v ∷ []) = refl
whole_length (u ∷ v ∷ x ∷ []) = refl
whole_length (u ∷ v ∷ x ∷ y ∷ rest) = let e = whole_length rest in omega arith

pub rows_count : (xs : List Float) → length xs / 4 ≡ length (boxes_of xs)
rows_count xs = let e = whole_length xs in let s = rest_short xs in omega arith

pub rest_count : (xs : List Float) → length xs % 4 ≡ length (rest_of xs)
rest_count xs = let e = whole_length xs in let s = rest_short xs in omega arith

pub length-reals : (cs : List Bounds) → length (reals_of cs) ≡ length cs * 4
unfolding reals_of
length-reals [] = refl
length-reals (c ∷ cs) = let e = length-reals cs in omega arith

-- the reals of the rows, and what stands behind them, are the table
pub table_whole : (xs : List Float) → reals_of (boxes_of xs) ++ rest_of xs ≡ xs
unfolding boxes_of rest_of reals_of
table_whole [] = refl
table_whole (u ∷ []) = refl
table_whole (u ∷ v ∷ []) = refl
table_whole (u ∷ v ∷ x ∷ []) = refl
table_whole (u ∷ v ∷ x ∷ y ∷ rest) = ap (λ (l : List Float). u ∷ v ∷ x ∷ y ∷ l) (table_whole rest)

none_behind : (xs : List Float) → boxes_of (rest_of xs) ≡ []
unfolding boxes_of rest_of
none_behind [] = refl
none_behind (u ∷ []) = refl
none_behind (u ∷ v ∷ []) = refl
none_behind (u ∷ v ∷ x ∷ []) = refl
none_behind (u ∷ v ∷ x ∷ y ∷ rest) = none_behind rest

rest_alone : (xs : List Float) → rest_of (rest_of xs) ≡ rest_of xs
unfolding rest_of
rest_alone [] = refl
rest_alone (u ∷ []) = refl
rest_alone (u ∷ v ∷ []) = refl
rest_alone (u ∷ v ∷ x ∷ []) = refl
rest_alone (u ∷ v ∷ x ∷ y ∷ rest) = rest_alone rest

-- a table that ends as other items keeps what stands behind its last whole row
pub items_after : (cs : List Bounds) (xs : List Float) → boxes_of (reals_of cs ++ rest_of xs) ≡ cs
unfolding boxes_of reals_of
items_after [] xs = none_behind xs
items_after (c ∷ cs) xs = ap (λ (l : List Bounds). c ∷ l) (items_after cs xs)

pub rest_after : (cs : List Bounds) (xs : List Float) → rest_of (reals_of cs ++ rest_of xs) ≡ rest_of xs
unfolding rest_of reals_of
rest_after [] xs = rest_alone xs
rest_after (c ∷ cs) xs = rest_after cs xs

-- read by fours the table has these boxes
by_fours : (xs : List Float) → map four_reals (first_chunks 4 (length (boxes_of xs)) xs) ≡ boxes_of xs
unfolding boxes_of
by_fours [] = refl
by_fours (u ∷ []) = refl
by_fours (u ∷ v ∷ []) = refl
by_fours (u ∷ v ∷ x ∷ []) = refl
by_fours (u ∷ v ∷ x ∷ y ∷ rest) = ap (λ (l : List Bounds). four_reals (u ∷ v ∷ x ∷ y ∷ []) ∷ l) (by_fours rest)

pub boxes_read : (xs : List Float) → map four_reals (first_chunks 4 (length xs / 4) xs) ≡ boxes_of xs
boxes_read xs = ap (λ k. map four_reals (first_chunks 4 k xs)) (rows_count xs) ∙ by_fours xs
