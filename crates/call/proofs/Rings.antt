-- What holds of each corner of a band's loops still holds of each where the strip takes them, if it holds of a corner that was moved in u.
use Prim.Native.Nat.{ℕ}
use mathlib.Core.Path.{sym, subst}
use mathlib.Core.Bool.{Bool, true, false, cond}
use lib.ListN.{get_or}
use lib.Ieee.{Float, nan, binary64}
use lib.Ieee.Fits.{add-fits, sub-fits}
use Rattle.numbers.specs.Rounded.{◌⊕◌, ◌⊖◌}
use Rattle.loops.specs.Branch.{branch_shift}
use Rattle.rings.specs.Choices.{first_of, first_open_past, strip_shift, nearest}
use Rattle.rings.specs.Turns.{begin_ring_at}
use Rattle.bands.specs.Band.{pick, joined, lower_first, lower_ring, holes}
use Rattle.tables.specs.Corners.{Corner, Corners, us, move_u}
use Rattle.bands.specs.Given.{Loop, Given}
use Rattle.bands.specs.Rings.{Face, rising, shifted, laid, seam, onto, on_strip, across_seam, gap_of, recut, cut_anew, has_strip, has_gap, reseam, trial, started}
use Rattle.rings.specs.Starts.{raised, less_u, align_cuts, slide_to_cut}
use Rattle.bands.specs.Strip.{Setting}
use Rattle.bands.proofs.Recut.{at_open_point, recut_is}
use Rattle.records.specs.Result.{Fits}
use Rattle.lists.specs.Elements.{All}
use Rattle.call.proofs.Each.{all_reverse, all_if, all_map, all_unless_zero, all_recut_at, all_begin_ring_at, all_align_at}

module _ {A : Type 0} (P : Corner A → Type 0) where
  pub record EachGiven (g : Given A) : Type 0 where
    pub first : All P g.first.corners
    pub later : All P g.later.corners
    pub holes : All (All P) g.holes

  record EachFace (f : Face A) : Type 0 where
    pub first : All P f.first
    pub later : All P f.later
    pub holes : All (All P) f.holes

module _ {A : Type 0} {P : Corner A → Type 0} (moved : (f : Float → Float) → ((x : Float) → Fits (f x)) → (c : Corner A) → P c → P (move_u f c)) where
  face_if : (t : Bool) {f g : Face A} → EachFace P f → EachFace P g → EachFace P (cond t f g)
  face_if true p q = p
  face_if false p q = q

  module _ (period : Float) where
    less : (step : Float) (c : Corner A) → P c → P (less_u step c)
    less step = moved (λ u. u ⊖ step) (λ u. sub-fits binary64 u step)

    up : (step : Float) (c : Corner A) → P c → P (move_u (λ u. u ⊕ step) c)
    up step = moved (λ u. u ⊕ step) (λ u. add-fits binary64 u step)

    rising_each : (l : Loop A) → All P l.corners → All P (rising l)
    unfolding rising
    rising_each l h = all_if l.falls (all_reverse h) h

    shifted_each : (least : Float) (r : Corners A) → All P r → All P (shifted period least r)
    unfolding shifted
    shifted_each least r h = all_map _ (less (branch_shift (first_of (us r)) least period)) h

    laid_each : (g : Given A) → EachGiven P g → EachFace P (laid period g)
    unfolding laid
    laid_each g h = record {
      first = shifted_each _ (rising g.first) (rising_each g.first h.first);
      later = shifted_each _ (rising g.later) (rising_each g.later h.later);
      holes = h.holes;
    }

    onto_each : (lo : Float) (hole : Corners A) → All P hole → All P (onto period lo hole)
    unfolding onto
    onto_each lo hole h = all_unless_zero _ _ (less (strip_shift period lo (us hole))) h

    recut_each : (cut : Float) (r : Corners A) → All P r → All P (recut period cut r)
    recut_each cut r h =
        subst (All P) (sym (recut_is cut r period))
        (all_recut_at (raised period) (λ c p. p) (up period) (first_open_past cut (us r)) r (at_open_point cut r) h)

    on-strip_each : (f : Face A) → EachFace P f → EachFace P (on_strip period f)
    unfolding on_strip
    on-strip_each f h = record { first = h.first; later = h.later; holes = all_map _ (onto_each (seam period f)) h.holes }

    cut_anew_each : (f : Face A) → EachFace P f → EachFace P (cut_anew period f)
    unfolding cut_anew
    cut_anew_each f h = record {
      first = recut_each _ f.first h.first;
      later = recut_each _ f.later h.later;
      holes = all_map _ (onto_each (gap_of period f).cut) (on-strip_each f h).holes;
    }

    reseam_each : (f : Face A) → EachFace P f → EachFace P (reseam period f)
    unfolding reseam
    reseam_each f h =
        let on = on-strip_each f h in
        face_if (has_strip period f) (face_if (across_seam period f) (face_if (has_gap period f) (cut_anew_each f h) on) on) h

    slid_each : (cut : Float) (r : Corners A) → All P r → All P (slide_to_cut period cut r)
    unfolding slide_to_cut
    slid_each cut r h = all_unless_zero _ _ (up (cut ⊖ first_of (us r))) h

    aligned_each : (cut : Float) (r : Corners A) → All P r → All P (align_cuts period cut r)
    unfolding align_cuts
    aligned_each cut r h =
        let k = nearest period cut (us r) in
        all_align_at (raised period) (up period) _ (less (branch_shift (get_or (us r) k nan) cut period)) k r h

    trial_each : (k : ℕ) (f : Face A) → EachFace P f → EachFace P (trial period k f)
    unfolding trial
    trial_each k f h =
        let cut = first_of (us (begin_ring_at (raised period) k f.first)) in
        record {
          first = all_begin_ring_at (raised period) (up period) k f.first h.first;
          later = slid_each cut (align_cuts period cut f.later) (aligned_each cut f.later h.later);
          holes = h.holes;
        }

  module _ (S : Setting A) (g : Given A) (h : EachGiven P g) where
    joined_each : EachFace P (joined S g)
    unfolding joined started
    joined_each = trial_each S.period _ _ (reseam_each S.period _ (laid_each S.period g h))

    pub pick_each : (t : Bool) → All P (pick t (joined S g))
    pick_each true = joined_each.first
    pick_each false = joined_each.later

    pub lower_each : All P (lower_ring S g)
    unfolding lower_ring
    lower_each = pick_each (lower_first S g)

    pub holes_each : All (All P) (holes S g)
    unfolding holes
    holes_each = joined_each.holes
