-- What the lists of `specs/Tables.antt` have to do with each other.
use Rattle.std.proofs.Common.{◌≡◌, ◌+◌, ◌*◌, ◌/◌, ◌%◌, ◌<◌, List, [], ◌∷◌, ◌++◌, length, map, refl, ap, ◌∙◌, arith, lit<}
use Rattle.std.specs.Simd.{first_chunks}
use Rattle.std.specs.Prelude.{Float}
use Rattle.numbers.specs.declared.math.Vec3.{Vec3}
use Rattle.tables.specs.Corners.{Corners}
use Rattle.tables.specs.Rows.{rows, five_reals}
use Rattle.tables.specs.declared.corners.Corner.{Corner}
use Rattle.views.specs.Tables.{corners_of, rest_of, reals_of}

pub rest_short : (xs : List Float) → length (rest_of xs) < 5
unfolding rest_of
rest_short [] = lit< tt
rest_short (u ∷ []) = lit< tt
rest_short (u ∷ v ∷ []) = lit< tt
rest_short (u ∷ v ∷ x ∷ []) = lit< tt
rest_short (u ∷ v ∷ x ∷ y ∷ []) = lit< tt
rest_short (u ∷ v ∷ x ∷ y ∷ z ∷ rest) = rest_short rest

pub whole_length : (xs : List Float) → length xs ≡ length (corners_of xs) * 5 + length (rest_of xs)
unfolding corners_of rest_of
whole_length [] = refl
whole_length (u ∷ []) = refl
whole_length (u ∷ v ∷ []) = refl
whole_length (u ∷ v ∷ x ∷ []) = refl
whole_length (u ∷ v ∷ x ∷ y ∷ []) = refl
whole_length (u ∷ v ∷ x ∷ y ∷ z ∷ rest) = let e = whole_length rest in omega arith

pub rows_count : (xs : List Float) → length xs / 5 ≡ length (corners_of xs)
rows_count xs = let e = whole_length xs in let s = rest_short xs in omega arith

pub rest_count : (xs : List Float) → length xs % 5 ≡ length (rest_of xs)
rest_count xs = let e = whole_length xs in let s = rest_short xs in omega arith

pub length-reals : (cs : List Corner) → length (reals_of cs) ≡ length cs * 5
unfolding reals_of
length-reals [] = refl
length-reals (c ∷ cs) = let e = length-reals cs in omega arith

-- the reals of the rows, and what stands behind them, are the table
pub table_whole : (xs : List Float) → reals_of (corners_of xs) ++ rest_of xs ≡ xs
unfolding corners_of rest_of reals_of
table_whole [] = refl
table_whole (u ∷ []) = refl
table_whole (u ∷ v ∷ []) = refl
table_whole (u ∷ v ∷ x ∷ []) = refl
table_whole (u ∷ v ∷ x ∷ y ∷ []) = refl
table_whole (u ∷ v ∷ x ∷ y ∷ z ∷ rest) = ap (λ (l : List Float). u ∷ v ∷ x ∷ y ∷ z ∷ l) (table_whole rest)

none_behind : (xs : List Float) → corners_of (rest_of xs) ≡ []
unfolding corners_of rest_of
none_behind [] = refl
none_behind (u ∷ []) = refl
none_behind (u ∷ v ∷ []) = refl
none_behind (u ∷ v ∷ x ∷ []) = refl
none_behind (u ∷ v ∷ x ∷ y ∷ []) = refl
none_behind (u ∷ v ∷ x ∷ y ∷ z ∷ rest) = none_behind rest

rest_alone : (xs : List Float) → rest_of (rest_of xs) ≡ rest_of xs
unfolding rest_of
rest_alone [] = refl
rest_alone (u ∷ []) = refl
rest_alone (u ∷ v ∷ []) = refl
rest_alone (u ∷ v ∷ x ∷ []) = refl
rest_alone (u ∷ v ∷ x ∷ y ∷ []) = refl
rest_alone (u ∷ v ∷ x ∷ y ∷ z ∷ rest) = rest_alone rest

-- a table that ends as other items keeps what stands behind its last whole row
pub items_after : (cs : List Corner) (xs : List Float) → corners_of (reals_of cs ++ rest_of xs) ≡ cs
unfolding corners_of reals_of
items_after [] xs = none_behind xs
items_after (c ∷ cs) xs = ap (λ (l : List Corner). c ∷ l) (items_after cs xs)

pub rest_after : (cs : List Corner) (xs : List Float) → rest_of (reals_of cs ++ rest_of xs) ≡ rest_of xs
unfolding rest_of reals_of
rest_after [] xs = rest_alone xs
rest_after (c ∷ cs) xs = rest_after cs xs

-- read by fives the table has these rows
by_fives : (xs : List Float) → map five_reals (first_chunks 5 (length (corners_of xs)) xs) ≡ rows (corners_of xs)
unfolding corners_of rows
by_fives [] = refl
by_fives (u ∷ []) = refl
by_fives (u ∷ v ∷ []) = refl
by_fives (u ∷ v ∷ x ∷ []) = refl
by_fives (u ∷ v ∷ x ∷ y ∷ []) = refl
by_fives (u ∷ v ∷ x ∷ y ∷ z ∷ rest) = ap (λ (l : Corners Vec3). five_reals (u ∷ v ∷ x ∷ y ∷ z ∷ []) ∷ l) (by_fives rest)

pub rows_read : (xs : List Float) → map five_reals (first_chunks 5 (length xs / 5) xs) ≡ rows (corners_of xs)
rows_read xs = ap (λ k. map five_reals (first_chunks 5 k xs)) (rows_count xs) ∙ by_fives xs
