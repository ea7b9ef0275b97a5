-- Holes moved, tested and measured one after the other, where they stand in one table.
use Prim.Native.Nat.{ℕ, ◌+◌, ◌-◌, ◌≤◌, ◌<◌, min}
use mathlib.Core.Path.{◌≡◌, refl, sym, ap, ap₂, ◌∙◌}
use mathlib.Core.Bool.{Bool, ◌||◌}
use Rattle.std.specs.List.{list_any}
use mathlib.Core.List.{List, [], ◌∷◌, ◌++◌, map}
use native.Mathlib.Omega.{arith}
use lib.Ieee.{Float}
use lib.ListN.{length, get_or, take, drop, length-map, length-append, length-drop}
use lib.Seq.{length-take-le}
use Rattle.numbers.specs.declared.math.Vec3.{Vec3}
use Rattle.lists.specs.Pieces.{pieces, map_pieces}
use Rattle.lists.specs.Placed.{placed}
use Rattle.lists.proofs.Maps.{map-take, map-drop}
use Rattle.lists.proofs.Pieces.{length-pieces, Piecing, piecing, piecing_turn, piecing_end}
use Rattle.lists.proofs.Placed.{placed_short, placed_whole}
use Rattle.tables.specs.Corners.{Corner, Corners, us, move_u}
use Rattle.tables.specs.Moves.{moved_by, unless_zero}
use Rattle.tables.specs.declared.moves.Move.TheVariants.{Down}
use Rattle.tables.specs.Rows.{rows}
use Rattle.tables.specs.declared.corners.Corner.{Corner as Held}
use Rattle.tables.proofs.PartRows.{part_rows}
use Rattle.tables.proofs.Rows.{length-rows}
use Rattle.rings.specs.Choices.{strip_shift, straddles}
use Rattle.rings.proofs.Lengths.{length-unless_zero}
use Rattle.seam.specs.declared.gap.Span.{Span}
use Rattle.seam.specs.declared.gap.Gap.{Gap}
use Rattle.seam.specs.Gap.{span_of, sorted, gap_along, widest_gap}
use Rattle.bands.specs.Rings.{onto, any_straddles}
use Rattle.rings.specs.Starts.{less_u}

-- a part put back is as long as it was
length_between : {A : Type 0} (from to : ℕ) (t p : List A) → from ≤ to → to ≤ length t → length p ≡ length (take (to - from) (drop from t))
    → length (take from t ++ (p ++ drop (to - from) (drop from t))) ≡ length t
length_between from to t p h k same =
    length-append (take from t) (p ++ drop (to - from) (drop from t))
    ∙ ap (λ (n : ℕ). length (take from t) + n) (length-append p (drop (to - from) (drop from t)))
    ∙ (let a = length-take-le from t (omega arith) in let b = length-drop from t in let c = length-take-le (to - from) (drop from t) (omega arith) in
    let d = length-drop (to - from) (drop from t) in omega arith)

module _ (period lo : Float) where
  pub onto_is : (r r' : Corners Vec3) (step : Float) → step ≡ strip_shift period lo (us r) → r' ≡ unless_zero step (move_u (moved_by (Down step))) r → r' ≡ onto period lo r
  unfolding onto
  onto_is r r' step e d = d ∙ ap (λ (x : Float). unless_zero x (less_u x) r) e

  pub length-onto : (r : Corners Vec3) → length (onto period lo r) ≡ length r
  unfolding onto
  length-onto r = length-unless_zero (strip_shift period lo (us r)) (less_u (strip_shift period lo (us r))) r

  -- ---- every hole moved

  pub record Moving (ns : List ℕ) (t₀ t : List Held) (from i : ℕ) : Type 0 where
    pub low : from ≤ length t
    pub is : Piecing (onto period lo) ns (rows t₀) (rows t) from i

  module _ (ns : List ℕ) (t₀ : List Held) where
    pub holes_moving : Moving ns t₀ t₀ 0 0
    holes_moving = record { low = omega arith; is = piecing (onto period lo) ns (rows t₀) }

    -- p is what the part from `from` up to `to` becomes
    pub holes_moving_turn : (t p : List Held) (from to i : ℕ) → Moving ns t₀ t from i → i < length ns → to ≡ min (from + get_or ns i 0) (length t)
        → rows p ≡ onto period lo (rows (take (to - from) (drop from t))) → length p ≡ length (take (to - from) (drop from t))
        → Moving ns t₀ (take from t ++ (p ++ drop (to - from) (drop from t))) to (i + 1)
    holes_moving_turn t p from to i m h e d same = record {
      low = let l = length_between from to t p (omega (arith, m.low)) (omega arith) same in omega arith;
      is = piecing_turn (onto period lo) length-onto ns (rows t₀) (rows t) _ from to i m.is h (e ∙ ap (min (from + get_or ns i 0)) (sym (length-rows t)))
          (part_rows (onto period lo) from to t p d);
    }

    pub holes_moving_end : (t : List Held) (from i : ℕ) → Moving ns t₀ t from i → length ns ≤ i → rows t ≡ map_pieces (onto period lo) ns (rows t₀)
    holes_moving_end t from i m h = piecing_end (onto period lo) ns (rows t₀) (rows t) from i m.is h

  -- ---- the first hole that straddles ends the search

  pub any_of_holes : (holes : List (Corners Vec3)) → list_any (λ hole. straddles period lo (us hole)) holes ≡ any_straddles period lo holes
  unfolding any_straddles
  any_of_holes [] = refl
  any_of_holes (hole ∷ holes) = ap (λ (b : Bool). straddles period lo (us hole) || b) (any_of_holes holes)

-- ---- what each hole covers

abbrev pub span_of_hole : Corners Vec3 → Span
span_of_hole hole = span_of (us hole)

pub spans_by_hole : (ns : List ℕ) (r : Corners Vec3) → map span_of (pieces ns (us r)) ≡ map span_of_hole (pieces ns r)
unfolding pieces
spans_by_hole [] r = refl
spans_by_hole (n ∷ ns) r =
    let u : Corner Vec3 → Float = λ (c : Corner Vec3). c.u in
    ap₂ ◌∷◌ (ap span_of (sym (map-take u n r))) (ap (λ l. map span_of (pieces ns l)) (sym (map-drop u n r)) ∙ spans_by_hole ns (drop n r))

module _ (ns : List ℕ) (t : List Held) (d₀ : List Span) where
  abbrev spans : List Span
  spans = map span_of (pieces ns (us (rows t)))

  pub length-spans : length spans ≡ length ns
  length-spans = length-map (pieces ns (us (rows t))) span_of ∙ length-pieces ns (us (rows t))

  pub not_covering : length d₀ < length ns → d₀ ≡ placed 0 spans d₀
  not_covering h = sym (placed_short 0 spans d₀ (let l = length-spans in omega arith))

  pub gap_is : (lo hi : Float) (spans₁ spans₂ : List Span) (g : Gap) → length d₀ ≡ length ns → spans₁ ≡ placed 0 spans d₀ → spans₂ ≡ sorted spans₁
      → g ≡ gap_along lo hi spans₂ → g ≡ widest_gap lo hi spans
  unfolding widest_gap
  gap_is lo hi spans₁ spans₂ g long all in_order e = e ∙ ap (gap_along lo hi) (in_order ∙ ap sorted (all ∙ placed_whole spans d₀ (length-spans ∙ sym long)))
