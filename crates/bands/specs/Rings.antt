-- What a face's two wrapping rings and its holes go through before the strip is closed. The sentences are those of 01, "Bands".
use Rattle.std.specs.Prelude.{ℕ, Bool, false, cond, ◌&&◌, ◌||◌, List, [], ◌∷◌, map, reverse, eqb, Float}
use Rattle.std.specs.Float.Ieee.{lt}
use Rattle.std.specs.Float.Ieee.Scale.{finite}
use Rattle.numbers.specs.Rounded.{◌⊕◌}
use Rattle.loops.specs.Branch.{branch_shift}
use Rattle.loops.specs.Rings.{turned}
use Rattle.tables.specs.Corners.{Corners, us}
use Rattle.rings.specs.Choices.{least_u, greatest_u, first_of, strip_shift, straddles, first_open_past}
use Rattle.tables.specs.Moves.{unless_zero}
use Rattle.rings.specs.Starts.{less_u, raised, first_for, later_for, start}
use Rattle.bands.specs.Given.{Loop, Given}
use Rattle.seam.specs.declared.gap.Gap.{Gap}
use Rattle.seam.specs.Gap.{span_of, widest_gap, usable}

-- the rings and the holes on their way
pub record Face (A : Type 0) : Type 0 where
  pub first : Corners A
  pub later : Corners A
  pub holes : List (Corners A)

module _ {A : Type 0} where
  -- "negative rings are reversed"
  unfoldable pub rising : Loop A → Corners A
  rising l = cond l.falls (reverse l.corners) l.corners

module _ (period : Float) {A : Type 0} where
  -- "Shift by whole periods toward the least u": also where the shift is a zero
  unfoldable pub shifted : Float → Corners A → Corners A
  shifted least r = map (less_u (branch_shift (first_of (us r)) least period)) r

  unfoldable pub laid : Given A → Face A
  laid given =
      let least = least_u (us given.first.corners) (us given.later.corners) in
      record { first = shifted least (rising given.first); later = shifted least (rising given.later); holes = given.holes }

  -- ---- `reseam`

  abbrev pub seam : Face A → Float
  seam face = least_u (us face.first) (us face.later)

  -- a hole "moved by whole periods as `reseam` first moves it"
  unfoldable pub onto : Float → Corners A → Corners A
  onto lo hole = let step = strip_shift period lo (us hole) in unless_zero step (less_u step) hole

  unfoldable pub on_strip : Face A → Face A
  on_strip face = record { first = face.first; later = face.later; holes = map (onto (seam face)) face.holes }

  unfoldable pub any_straddles : Float → List (Corners A) → Bool
  any_straddles lo [] = false
  any_straddles lo (hole ∷ holes) = straddles period lo (us hole) || any_straddles lo holes

  -- "A hole lies across the seam"
  unfoldable pub across_seam : Face A → Bool
  across_seam face = any_straddles (seam face) (on_strip face).holes

  unfoldable pub gap_of : Face A → Gap
  gap_of face = widest_gap (seam face) (seam face ⊕ period) (map (λ (hole : Corners A). span_of (us hole)) (on_strip face).holes)

  -- 02, N4: "Recutting now sets the repeat aside and finds the first open point at or past the cut. It turns the open points, adds the period to those moved,
  -- and closes with the new first point's position and v, at its u plus period. If no open point reaches the cut, or the first one does, the ring stays."
  unfoldable pub recut : Float → Corners A → Corners A
  recut cut r = let k = first_open_past cut (us r) in cond (eqb k 0) r (turned (raised period) k r)

  unfoldable pub cut_anew : Face A → Face A
  cut_anew face =
      let cut = (gap_of face).cut in
      record { first = recut cut face.first; later = recut cut face.later; holes = map (onto cut) (on_strip face).holes }

  -- whether the rings make a strip at all
  unfoldable pub has_strip : Face A → Bool
  has_strip face = finite (seam face) && lt (seam face) (greatest_u (us face.first) (us face.later))

  unfoldable pub has_gap : Face A → Bool
  has_gap face = usable (seam face) (seam face ⊕ period) (gap_of face)

  -- the rings are cut anew only where a hole lies across the seam and there is a gap
  unfoldable pub reseam : Face A → Face A
  reseam face = cond (has_strip face) (cond (across_seam face) (cond (has_gap face) (cut_anew face) (on_strip face)) (on_strip face)) face

  -- ---- where the rings begin

  -- "starts k of the first ring": both rings, the first begun at its point k
  unfoldable pub trial : ℕ → Face A → Face A
  trial k face =
      let first = first_for period k face.first in
      record { first = first; later = later_for period (first_of (us first)) face.later; holes = face.holes }

  unfoldable pub started : Face A → Face A
  started face = trial (start period face.first face.later) face
