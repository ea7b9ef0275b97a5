-- No step before the strip changes how many points a loop has.
use Prim.Native.Nat.{ℕ}
use mathlib.Core.Path.{◌≡◌, refl, ap, ◌∙◌}
use mathlib.Core.Bool.{Bool, true, false, cond}
use mathlib.Core.List.{List, [], ◌∷◌, map, reverse}
use lib.Ieee.{Float, nan}
use lib.ListN.{length, get_or, length-map, length-reverse}
use Rattle.numbers.specs.Rounded.{◌⊕◌, ◌⊖◌}
use Rattle.loops.specs.Branch.{branch_shift}
use Rattle.rings.specs.Choices.{first_of, first_open_past, nearest}
use Rattle.rings.specs.Turns.{begin_ring_at}
use Rattle.rings.specs.Starts.{start, raised, less_u, align_cuts, slide_to_cut}
use Rattle.rings.proofs.Lengths.{length_if, length-begin_ring_at, length-recut_at, length-align_at, length-unless_zero}
use Rattle.tables.specs.Corners.{Corners, us, move_u}
use Rattle.bands.specs.Given.{Loop, Given}
use Rattle.bands.specs.Rings.{Face, rising, shifted, laid, recut, on_strip, cut_anew, has_strip, across_seam, has_gap, reseam, trial, started}
use Rattle.bands.proofs.Recut.{recut_is}

-- a column of some lists has as many elements in each as the list has
pub lengths_each : {A B : Type 0} (f : A → B) (xss : List (List A)) → map length (map (map f) xss) ≡ map length xss
lengths_each f [] = refl
lengths_each f (xs ∷ xss) = λ i. length-map xs f i ∷ lengths_each f xss i

module _ {A : Type 0} where
  pub length-rising : (l : Loop A) → length (rising l) ≡ length l.corners
  unfolding rising
  length-rising l = length_if (length l.corners) l.falls (reverse l.corners) l.corners (length-reverse l.corners) refl

-- as many points in both rings
pub record SameLengths {A : Type 0} (f g : Face A) : Type 0 where
  pub first : length f.first ≡ length g.first
  pub later : length f.later ≡ length g.later

module _ (period : Float) {A : Type 0} where
  pub length-shifted : (least : Float) (r : Corners A) → length (shifted period least r) ≡ length r
  unfolding shifted
  length-shifted least r = length-map r _

  length-recut : (cut : Float) (r : Corners A) → length (recut period cut r) ≡ length r
  length-recut cut r = ap length (recut_is cut r period) ∙ length-recut_at (raised period) (first_open_past cut (us r)) r

  pub lengths_reseam : (face : Face A) → SameLengths (reseam period face) face
  unfolding reseam on_strip cut_anew
  lengths_reseam face = outcome (has_strip period face) (across_seam period face) (has_gap period face)
    where
      outcome : (s t b : Bool) → SameLengths (cond s (cond t (cond b (cut_anew period face) (on_strip period face)) (on_strip period face)) face) face
      outcome false t b = record { first = refl; later = refl }
      outcome true false b = record { first = refl; later = refl }
      outcome true true false = record { first = refl; later = refl }
      outcome true true true = record { first = length-recut _ face.first; later = length-recut _ face.later }

  length-align_cuts : (cut : Float) (r : Corners A) → length (align_cuts period cut r) ≡ length r
  unfolding align_cuts
  length-align_cuts cut r = let k = nearest period cut (us r) in length-align_at (raised period) (less_u (branch_shift (get_or (us r) k nan) cut period)) k r

  length-slide_to_cut : (cut : Float) (r : Corners A) → length (slide_to_cut period cut r) ≡ length r
  unfolding slide_to_cut
  length-slide_to_cut cut r = length-unless_zero (cut ⊖ first_of (us r)) (move_u (λ u. u ⊕ (cut ⊖ first_of (us r)))) r

  pub lengths_trial : (k : ℕ) (face : Face A) → SameLengths (trial period k face) face
  unfolding trial
  lengths_trial k face = record {
    first = length-begin_ring_at (raised period) k face.first;
    later = length-slide_to_cut cut (align_cuts period cut face.later) ∙ length-align_cuts cut face.later;
  }
    where
      cut : Float
      cut = first_of (us (begin_ring_at (raised period) k face.first))

  abbrev start_of : Face A → ℕ
  start_of face = start period face.first face.later

  -- the rings as the strip takes them are as long as the loops given
  pub length-first : (given : Given A) → length (started period (reseam period (laid period given))).first ≡ length given.first.corners
  unfolding started laid
  length-first given =
      (lengths_trial (start_of (reseam period (laid period given))) (reseam period (laid period given))).first ∙ (lengths_reseam (laid period given)).first
      ∙ length-shifted _ (rising given.first) ∙ length-rising given.first

  pub length-later : (given : Given A) → length (started period (reseam period (laid period given))).later ≡ length given.later.corners
  unfolding started laid
  length-later given =
      (lengths_trial (start_of (reseam period (laid period given))) (reseam period (laid period given))).later ∙ (lengths_reseam (laid period given)).later
      ∙ length-shifted _ (rising given.later) ∙ length-rising given.later
