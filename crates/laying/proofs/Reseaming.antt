-- `reseam` on tables: the definition's own tests and steps, in the order in which the code makes them.
use Prim.Native.Nat.{ℕ, ◌≤◌, ◌<◌}
use mathlib.Core.Path.{◌≡◌, refl, sym, ap, ◌∙◌}
use mathlib.Core.Bool.{Bool, true, false, cond, not, ◌&&◌}
use mathlib.Core.List.{List, [], ◌∷◌, map}
use borrow.Author.Tests.{lt-leb, le-leb, not-true, not-false}
use lib.Ieee.{Float, lt}
use lib.Ieee.Scale.{finite}
use lib.ListN.{length, drop}
use Rattle.numbers.specs.Rounded.{◌⊕◌}
use Rattle.numbers.specs.declared.math.Vec3.{Vec3}
use Rattle.lists.specs.Pieces.{pieces, map_pieces}
use Rattle.lists.proofs.Maps.{map-take, map-drop}
use Rattle.lists.proofs.Pieces.{pieces_mapped}
use Rattle.tables.specs.Corners.{Corner, Corners, us, move_u}
use Rattle.tables.specs.Moves.{moved_by}
use Rattle.tables.specs.declared.moves.Move.TheVariants.{Up}
use Rattle.rings.specs.Choices.{least_u, greatest_u, first_open_past}
use Rattle.rings.specs.Turns.{recut_at}
use Rattle.seam.specs.declared.gap.Gap.{Gap}
use Rattle.seam.specs.Gap.{span_of, widest_gap, usable}
use Rattle.bands.specs.Rings.{Face, onto, on_strip, any_straddles, across_seam, gap_of, recut, cut_anew, has_strip, has_gap, reseam}
use Rattle.rings.specs.Starts.{raised}
use Rattle.bands.proofs.Recut as Recut
use Rattle.laying.specs.Held.{reseam_within}
use Rattle.laying.proofs.EachHole.{length-onto}

-- ---- whether there is a strip

module _ (lo : Float) (t : Bool) (t_is : t ≡ finite lo) (high : Float) where
  pub strip-above : t ≡ true → (x : Float) → x ≡ high → lt lo x ≡ (finite lo && lt lo high)
  strip-above f x e = ap (lt lo) e ∙ sym (ap (λ (b : Bool). b && lt lo high) (sym t_is ∙ f))

-- ---- a ring cut anew

pub recut_is : (period cut : Float) (r r' : Corners Vec3) (k : ℕ) → k ≡ first_open_past cut (us r) → r' ≡ recut_at (move_u (moved_by (Up period))) k r → r' ≡ recut period cut r
recut_is period cut r r' k e d = d ∙ ap (λ (n : ℕ). recut_at (raised period) n r) e ∙ sym (Recut.recut_is cut r period)

-- ---- the spans of the holes are those of their u

spans_of_lem : (ns : List ℕ) (r : Corners Vec3) → map span_of (pieces ns (us r)) ≡ map (λ (hole : Corners Vec3). span_of (us hole)) (pieces ns r)
unfolding pieces
spans_of_lem [] r = refl
spans_of_lem (n ∷ ns) r =
    let u : Corner Vec3 → Float = λ (c : Corner Vec3). c.u in
    λ i. span_of (sym (map-take u n r) i) ∷ (ap (λ (l : List Float). map span_of (pieces ns l)) (sym (map-drop u n r)) ∙ spans_of_lem ns (drop n r)) i

-- ---- the whole

module _ (period : Float) (ns : List ℕ) (first later holes : Corners Vec3) where
  abbrev face_of : Corners Vec3 → Corners Vec3 → Corners Vec3 → Face Vec3
  face_of f l h = record { first = f; later = l; holes = pieces ns h }

  abbrev face : Face Vec3
  face = face_of first later holes

  module _ (lo : Float) (lo_is : lo ≡ least_u (us first) (us later)) (t : Bool) (t_is : t ≡ (finite lo && lt lo (greatest_u (us first) (us later)))) where
    strip : (b : Bool) → t ≡ b → has_strip period face ≡ b
    unfolding has_strip
    strip b e = (λ i. finite (sym lo_is i) && lt (sym lo_is i) (greatest_u (us first) (us later))) ∙ sym t_is ∙ e

    pub stripless : not t ≡ true → face ≡ reseam period face
    unfolding reseam
    stripless e = sym (rw (strip false (not-true t e)))

    module _ (there : not t ≡ false) (holes₁ : Corners Vec3) (moved : holes₁ ≡ map_pieces (onto period lo) ns holes) (a : Bool) (a_is : a ≡ any_straddles period lo (pieces ns holes₁)) where
      on : pieces ns holes₁ ≡ (on_strip period face).holes
      unfolding on_strip
      on =
          ap (pieces ns) moved ∙ pieces_mapped (onto period lo) (length-onto period lo) ns holes
          ∙ ap (λ (x : Float). map (onto period x) (pieces ns holes)) lo_is

      on-face : face_of first later holes₁ ≡ on_strip period face
      unfolding on_strip
      on-face = ap (λ (h : List (Corners Vec3)). record { first = first; later = later; holes = h }) on

      across : (b : Bool) → a ≡ b → across_seam period face ≡ b
      unfolding across_seam
      across b e = (λ i. any_straddles period (sym lo_is i) (sym on i)) ∙ sym a_is ∙ e

      reseamed : (x y z : Bool) → has_strip period face ≡ x → across_seam period face ≡ y → has_gap period face ≡ z
          → reseam period face ≡ cond x (cond y (cond z (cut_anew period face) (on_strip period face)) (on_strip period face)) face
      unfolding reseam
      reseamed x y z ex ey ez = λ i. cond (ex i) (cond (ey i) (cond (ez i) (cut_anew period face) (on_strip period face)) (on_strip period face)) face

      pub none_across : not a ≡ true → face_of first later holes₁ ≡ reseam period face
      none_across e = on-face ∙ sym (reseamed true false (has_gap period face) (strip true (not-false t there)) (across false (not-true a e)) refl)

      module _ (crossed : not a ≡ false) (g : Gap) (g_is : g ≡ widest_gap lo (lo ⊕ period) (map span_of (pieces ns (us holes₁)))) (b : Bool) (b_is : b ≡ usable lo (lo ⊕ period) g) where
        gap : g ≡ gap_of period face
        unfolding gap_of
        gap =
            g_is ∙ ap (widest_gap lo (lo ⊕ period)) (spans_of_lem ns holes₁)
            ∙ (λ i. widest_gap (lo_is i) (lo_is i ⊕ period) (map (λ (hole : Corners Vec3). span_of (us hole)) (on i)))

        usable_is : (x : Bool) → b ≡ x → has_gap period face ≡ x
        unfolding has_gap
        usable_is x e = (λ i. usable (sym lo_is i) (sym lo_is i ⊕ period) (sym gap i)) ∙ sym b_is ∙ e

        tested : (x : Bool) → b ≡ x → reseam period face ≡ cond x (cut_anew period face) (on_strip period face)
        tested x e = reseamed true true x (strip true (not-false t there)) (across true (not-false a crossed)) (usable_is x e)

        pub no_gap : b ≡ false → face_of first later holes₁ ≡ reseam period face
        no_gap e = on-face ∙ sym (tested false e)

        anew : (first' later' holes₂ : Corners Vec3) → (first' ≡ recut period g.cut first) × ((later' ≡ recut period g.cut later) × (holes₂ ≡ map_pieces (onto period g.cut) ns holes₁))
            → face_of first' later' holes₂ ≡ cut_anew period face
        unfolding cut_anew
        anew first' later' holes₂ (ef, (el, eh)) = λ i. record {
          first = (ef ∙ ap (λ (x : Gap). recut period x.cut first) gap) i;
          later = (el ∙ ap (λ (x : Gap). recut period x.cut later) gap) i;
          holes = (ap (pieces ns) eh ∙ pieces_mapped (onto period g.cut) (length-onto period g.cut) ns holes₁ ∙ (λ j. map (onto period (gap j).cut) (on j))) i;
        }

        pub at_gap : b ≡ true → (first' later' holes₂ : Corners Vec3) → (first' ≡ recut period g.cut first) × ((later' ≡ recut period g.cut later) × (holes₂ ≡ map_pieces (onto period g.cut) ns holes₁))
            → face_of first' later' holes₂ ≡ reseam period face
        at_gap e first' later' holes₂ d = anew first' later' holes₂ d ∙ sym (tested true e)

  module _ (n : ℕ) where
    pub no_room : n < length ns → face ≡ reseam_within period ns n face
    unfolding reseam_within
    no_room h = sym (rw (lt-leb _ _ h))

    pub with_room : length ns ≤ n → (s : Face Vec3) → s ≡ reseam period face → s ≡ reseam_within period ns n face
    unfolding reseam_within
    with_room h s d = d ∙ sym (rw (le-leb _ _ h))
