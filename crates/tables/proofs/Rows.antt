-- The rows of a table: how many they are, those of a part and of tables one behind the other, and what is read, stored and moved there.
use mathlib.Core.List as List
use Rattle.std.proofs.Common.{◌≡◌, ℕ, ◌-◌, ◌<◌, List, [], ◌∷◌, ◌++◌, length, get_or, set, take, drop, map, refl, sym, ap, ◌∙◌}
use Rattle.std.proofs.lemmas.List.{length-map, map-append, map-set, take-map, drop-map}
use Rattle.std.proofs.Math.ListN.{get_or-map}
use Rattle.std.specs.Prelude.{Float}
use Rattle.std.specs.Float.{nan}
use Rattle.numbers.specs.declared.math.Vec3.{Vec3}
use Rattle.lists.proofs.Maps.{map-reverse}
use Rattle.lists.proofs.Elements.{get_d_map}
use Rattle.tables.specs.Corners.{Corner, Corners, us, vs, move_u, move_v}
use Rattle.tables.specs.Rows.{rows, corner_of, held_u, none}
use Rattle.tables.specs.declared.corners.Corner.{Corner as Held}

-- what is read past the end
abbrev pub absent : Held
absent = record { u = nan; v = nan; at = record { x = nan; y = nan; z = nan } }

pub length-rows : (t : List Held) → length (rows t) ≡ length t
unfolding rows
length-rows t = length-map t corner_of

pub length-us : (t : List Held) → length (us (rows t)) ≡ length t
length-us t = length-map (rows t) (λ (c : Corner Vec3). c.u) ∙ length-rows t

-- of no corner
pub rows-none : rows [] ≡ []
unfolding rows
rows-none = refl

-- ---- parts

pub rows_take : (k : ℕ) (t : List Held) → rows (take k t) ≡ take k (rows t)
unfolding rows
rows_take k t = sym (take-map corner_of k t)

pub rows_drop : (k : ℕ) (t : List Held) → rows (drop k t) ≡ drop k (rows t)
unfolding rows
rows_drop k t = sym (drop-map corner_of k t)

-- the rows from a up to e
pub rows_part : (a e : ℕ) (t : List Held) → rows (take (e - a) (drop a t)) ≡ take (e - a) (drop a (rows t))
rows_part a e t = rows_take (e - a) (drop a t) ∙ ap (take (e - a)) (rows_drop a t)

pub rows_append : (s t : List Held) → rows (s ++ t) ≡ rows s ++ rows t
unfolding rows
rows_append s t = map-append corner_of s t

pub rows-reverse : (t : List Held) → rows (List.reverse t) ≡ List.reverse (rows t)
unfolding rows
rows-reverse t = map-reverse corner_of t

-- ---- what stands in a row

pub row_at : (t : List Held) (i : ℕ) → i < length t → get_or (rows t) i none ≡ corner_of (get_or t i absent)
unfolding rows
row_at t i h = get_d_map corner_of t i none absent h

pub row_or : (t : List Held) (i : ℕ) (past : Held) → corner_of past ≡ none → corner_of (get_or t i past) ≡ get_or (rows t) i none
unfolding rows
row_or t i past e = sym (get_or-map corner_of t i past) ∙ ap (get_or (rows t) i) e

pub rows-set : (t : List Held) (i : ℕ) (c : Held) → rows (set t i c) ≡ set (rows t) i (corner_of c)
unfolding rows
rows-set t i c = map-set corner_of t i c

-- ---- its u and its v

pub u-at : (t : List Held) (i : ℕ) → get_or (us (rows t)) i nan ≡ (get_or (rows t) i none).u
u-at t i = get_or-map (λ (c : Corner Vec3). c.u) (rows t) i none

pub v-at : (t : List Held) (i : ℕ) → get_or (vs (rows t)) i nan ≡ (get_or (rows t) i none).v
v-at t i = get_or-map (λ (c : Corner Vec3). c.v) (rows t) i none

module _ (t : List Held) (i : ℕ) (h : i < length t) where
  pub u-at-place : get_or (us (rows t)) i nan ≡ (get_or t i absent).u
  u-at-place = u-at t i ∙ ap (λ (c : Corner Vec3). c.u) (row_at t i h)

  pub v-at-place : get_or (vs (rows t)) i nan ≡ (get_or t i absent).v
  v-at-place = v-at t i ∙ ap (λ (c : Corner Vec3). c.v) (row_at t i h)

-- ---- what is done to each

-- a corner's v moved, as the code holds it
abbrev pub held_v : (Float → Float) → Held → Held
held_v f c = record { u = c.u; v = f c.v; at = c.at }

pub rows-each-u : (f : Float → Float) (t : List Held) → rows (map (held_u f) t) ≡ map (move_u f) (rows t)
unfolding rows
rows-each-u f [] = refl
rows-each-u f (c ∷ t) = ap (λ (l : Corners Vec3). move_u f (corner_of c) ∷ l) (rows-each-u f t)

pub rows-each-v : (f : Float → Float) (t : List Held) → rows (map (held_v f) t) ≡ map (move_v f) (rows t)
unfolding rows
rows-each-v f [] = refl
rows-each-v f (c ∷ t) = ap (λ (l : Corners Vec3). move_v f (corner_of c) ∷ l) (rows-each-v f t)

pub put-v : (f : Float → Float) (c : Held) (v' : Float) → v' ≡ f c.v → record { u = c.u; v = v'; at = c.at } ≡ held_v f c
put-v f c v' e = ap (λ (w : Float). record { u = c.u; v = w; at = c.at }) e
