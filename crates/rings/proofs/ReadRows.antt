-- Searches over the u of a table's rows.
use Rattle.std.proofs.Common.{◌≡◌, ℕ, ◌+◌, ◌-◌, ◌<◌, List, ◌∷◌, [], length, get_or, take, map, refl, sym, ap, ◌∙◌, arith}
use Rattle.std.proofs.lemmas.List.{map-id}
use Rattle.std.specs.Prelude.{Option, Some, None}
use Rattle.std.specs.Option.{unwrap_or}
use Rattle.std.specs.List.{position_or_len}
use mathlib.Core.Bool.{Bool, cond, not}
use lib.Dec.{ltb}
use lib.Ieee.{Float, nan, le}
use Rattle.lists.proofs.Elements.{get_d_map}
use Rattle.lists.proofs.Maps.{map-take}
use Rattle.numbers.specs.declared.math.Vec3.{Vec3}
use Rattle.tables.specs.Corners.{Corner, Corners, us}
use Rattle.tables.specs.Rows.{rows}
use Rattle.tables.specs.declared.corners.Corner.{Corner as Held}
use Rattle.tables.proofs.Rows.{length-us, rows_take}
use Rattle.rings.specs.Choices.{first_past, first_open_past}
use Rattle.rings.proofs.Decisions.{past_first, open_none, open_past}

-- the u of a table's rows are those of its corners
pub us_of_rows : (t : List Held) → map (λ (c : Held). c.u) t ≡ us (rows t)
unfolding rows
us_of_rows [] = refl
us_of_rows (c ∷ t) = ap (λ (l : List Float). c.u ∷ l) (us_of_rows t)

-- and those of reals are the reals
pub us_of_reals : (xs : List Float) → map (λ u. u) xs ≡ xs
us_of_reals xs = map-id xs

-- what is read of each of a list by a call
pub read_of : {A : Type 0} (u : A → Float) (xs : List A) (i : ℕ) (x : A) (y : Float) → i < length xs → x ≡ get_or xs i x → y ≡ u x → y ≡ get_or (map u xs) i nan
read_of u xs i x y h e d = d ∙ ap u e ∙ sym (get_d_map u xs i nan x h)

-- whether a corner is at or past the cut
abbrev pub Past : Float → Held → Bool
Past cut c = le cut c.u

position_rows : (cut : Float) (t : List Held) → position_or_len (Past cut) t ≡ position_or_len (le cut) (us (rows t))
unfolding rows
position_rows cut [] = refl
position_rows cut (c ∷ t) = ap (λ (k : ℕ). cond (not (le cut c.u)) (1 + k) 0) (position_rows cut t)

module _ (cut : Float) (t : List Held) where
  pub past_rows : (place : Option ℕ) → place ≡ cond (ltb (position_or_len (Past cut) t) (length t)) (Some (position_or_len (Past cut) t)) None
      → unwrap_or place 0 ≡ first_past cut (us (rows t))
  past_rows place e = past_first cut (us (rows t)) place (e ∙ (λ i. let k = position_rows cut t i in cond (ltb k (sym (length-us t) i)) (Some k) None))

  pub open_rows-none : length t ≡ 0 → 0 ≡ first_open_past cut (us (rows t))
  open_rows-none h = open_none cut (us (rows t)) (let l = length-us t in omega arith)

  -- a table's rows but the last
  pub open_rows-past : (k : ℕ) → k ≡ first_past cut (us (rows (take (length t - 1) t))) → k ≡ first_open_past cut (us (rows t))
  open_rows-past k d =
      let m : length t - 1 ≡ length (us (rows t)) - 1 - 0 = (let l = length-us t in omega arith) in
      open_past cut (us (rows t)) k
      (d ∙ ap (λ (r : Corners Vec3). first_past cut (us r)) (rows_take (length t - 1) t)
      ∙ ap (first_past cut) (map-take (λ (c : Corner Vec3). c.u) (length t - 1) (rows t) ∙ ap (λ (j : ℕ). take j (us (rows t))) m))
