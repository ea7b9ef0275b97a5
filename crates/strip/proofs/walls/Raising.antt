-- The wall between two rings, raised from its heights.
use Rattle.std.proofs.Common.{◌≡◌, ℕ, ◌+◌, ◌≤◌, ◌<◌, List, [], ◌∷◌, ◌++◌, length, get_or, set, drop, map, refl, sym, ap, ◌∙◌, add-one, arith, length-set}
use Rattle.std.proofs.lemmas.List.{length-map}
use Rattle.std.proofs.lemmas.List.Edits.{sets}
use Rattle.std.specs.Prelude.{Float}
use Rattle.numbers.specs.declared.math.Vec3.{Vec3}
use Rattle.surfaces.specs.declared.options.Resolved.{Resolved}
use Rattle.surfaces.specs.declared.patch.Patch.{Patch}
use Rattle.surfaces.specs.declared.surface.Surface.{Surface}
use Rattle.surfaces.specs.Points.{point_of}
use Rattle.lists.specs.Placed.{placed}
use Rattle.lists.proofs.Placed.{placed_short, placed-none}
use Rattle.lists.proofs.Stores.{sets-past}
use Rattle.tables.specs.Corners.{Corner, Corners}
use Rattle.tables.specs.Rows.{rows, none}
use Rattle.tables.specs.declared.corners.Corner.{Corner as Held}
use Rattle.tables.proofs.Rows.{length-rows, rows-set, rows_append, rows_drop, row_at, absent}
use Rattle.bands.specs.Columns.{heights_on, heights_kept}
use Rattle.bands.proofs.Walls.{heights-kept}
use Rattle.strip.specs.Corners.{heights_by, heights_between, row_on, wall_by, wall_between, wall_kept}
use Rattle.strip.proofs.walls.Laws.{placed-front}

-- ---- heights between two rings

module _ (surface : Surface) (options : Resolved) where
  pub no_lower : (lower upper : List Held) → length lower ≡ 0 → heights_between surface options (rows lower) (rows upper) ≡ []
  unfolding heights_by rows
  no_lower [] upper e = refl
  no_lower (l ∷ lower) upper e = absurd (omega arith)

  pub no_upper : (lower upper : List Held) → length upper ≡ 0 → heights_between surface options (rows lower) (rows upper) ≡ []
  unfolding heights_by rows
  no_upper [] upper e = refl
  no_upper (l ∷ lower) [] e = refl
  no_upper (l ∷ lower) (u ∷ upper) e = absurd (omega arith)

  pub heights-there : (lower upper : List Held) → 0 < length lower → 0 < length upper
      → heights_on surface options (get_or lower 0 absent).v (get_or upper 0 absent).v ≡ heights_between surface options (rows lower) (rows upper)
  unfolding heights_by rows
  heights-there [] upper a b = absurd (omega arith)
  heights-there (l ∷ lower) [] a b = absurd (omega arith)
  heights-there (l ∷ lower) (u ∷ upper) a b = refl

-- ---- `raise_up`

-- the rows of `left` are to be stored from k on
module _ (patch : Patch) (u : Float) (all : List Float) (wall₀ : List Held) where
  pub record Raising (wall : List Held) (k : ℕ) (left : List Float) : Type 0 where
    pub room : k ≤ length wall
    pub is : sets (rows wall) k (map (row_on patch u) left) ≡ sets (rows wall₀) 0 (map (row_on patch u) all)

  pub raising : {k : ℕ} {left : List Float} → k ≡ 0 → left ≡ all → Raising wall₀ k left
  raising e f = record { room = omega arith; is = λ i. sets (rows wall₀) (e i) (map (row_on patch u) (f i)) }

  module _ {wall : List Held} {k : ℕ} {left : List Float} (r : Raising wall k left) where
    pub raising_full : k ≡ length wall → rows wall ≡ sets (rows wall₀) 0 (map (row_on patch u) all)
    raising_full e = sym (sets-past (rows wall) k (map (row_on patch u) left) (omega (arith, length-rows wall))) ∙ r.is

    pub raising_end : left ≡ [] → rows wall ≡ sets (rows wall₀) 0 (map (row_on patch u) all)
    raising_end e = ap (λ (l : List Float). sets (rows wall) k (map (row_on patch u) l)) (sym e) ∙ r.is

    pub raising_turn : {v : Float} {at : Vec3} {behind : List Float} → (k ≡ length wall → ⊥) → left ≡ v ∷ behind → at ≡ point_of patch.frame patch.surface u v
        → Raising (set wall k (record { u = u; v = v; at = at })) (k + 1) behind
    raising_turn {v} {at} {behind} more e point =
        let c : Held = record { u = u; v = v; at = at } in
        let place = r.room in
        let short : k < length wall = omega (arith, more) in
        record {
          room = omega (arith, length-set wall k c);
          is =
              ap (λ (w : Corners Vec3). sets w (k + 1) (map (row_on patch u) behind)) (rows-set wall k c)
              ∙ (λ i. sets (set (rows wall) k (record { u = u; v = v; at = point i })) (add-one k i) (map (row_on patch u) behind))
              ∙ ap (λ (l : List Float). sets (rows wall) k (map (row_on patch u) l)) (sym e)
              ∙ r.is;
        }

-- ---- `raise_wall`

-- by the rungs, and by the divisions kept
pub both_walls : (patch : Patch) (lower upper before after : Corners Vec3) → after ≡ placed 0 (wall_between patch lower upper) before
    → (after ≡ placed 0 (wall_between patch lower upper) before) × (after ≡ placed 0 (wall_kept patch lower upper) before)
both_walls patch lower upper before after e =
    let same : heights_on patch.surface patch.options ≡ heights_kept patch.surface patch.options = (λ i a b. heights-kept patch.surface patch.options a b i) in
    (e, e ∙ ap (λ (on : Float → Float → List Float). placed 0 (wall_by on patch lower upper) before) same)

pub no_wall : (patch : Patch) (lower upper before : Corners Vec3) → heights_between patch.surface patch.options lower upper ≡ [] → before ≡ placed 0 (wall_between patch lower upper) before
no_wall patch lower upper before e =
    sym (ap (λ (h : List Float). placed 0 (map (row_on patch (get_or lower 0 none).u) h) before) e ∙ placed-none 0 before)

module _ (patch : Patch) (lower upper before : List Held) (n : ℕ) (a : 0 < length lower) (b : 0 < length upper)
    (count : n ≡ length (heights_on patch.surface patch.options (get_or lower 0 absent).v (get_or upper 0 absent).v)) where
  abbrev W : Corners Vec3
  W = wall_between patch (rows lower) (rows upper)

  long : length W ≡ n
  long = length-map (heights_between patch.surface patch.options (rows lower) (rows upper)) (row_on patch (get_or (rows lower) 0 none).u)
      ∙ sym (count ∙ ap length (heights-there patch.surface patch.options lower upper a b))

  pub too_low : length before < n → rows before ≡ placed 0 W (rows before)
  too_low h = sym (placed_short 0 W (rows before) (let e = long in let l = length-rows before in omega arith))

  pub raised : (part : List Held) → n ≤ length before
      → rows part ≡ map (row_on patch (get_or lower 0 absent).u) (heights_on patch.surface patch.options (get_or lower 0 absent).v (get_or upper 0 absent).v)
      → rows (part ++ drop n before) ≡ placed 0 W (rows before)
  raised part h e =
      let l = length-rows before in
      let first = ap (λ (c : Corner Vec3). c.u) (row_at lower 0 a) in
      let front : rows part ≡ W = e ∙ (λ i. map (row_on patch (sym first i)) (heights-there patch.surface patch.options lower upper a b i)) in
      rows_append part (drop n before) ∙ (λ i. front i ++ rows_drop n before i) ∙ sym (placed-front W (rows before) n (sym long) (omega arith))
