-- Where no hole lies across the seam, `reseam` leaves both rings as they are.
use mathlib.Core.Path.{◌≡◌, refl}
use mathlib.Core.Bool.{Bool, true, false, cond, true≢false}
use lib.Ieee.{Float}
use Rattle.tables.specs.Corners.{Corners}
use Rattle.bands.specs.Rings.{Face, on_strip, across_seam, cut_anew, has_strip, has_gap, reseam}

module _ {A : Type 0} (period : Float) (face : Face A) (clear : across_seam period face ≡ false) where
  ring_stays : (ring : Face A → Corners A) → ring (on_strip period face) ≡ ring face → ring (reseam period face) ≡ ring face
  unfolding reseam
  ring_stays ring e = outcome (has_strip period face) (across_seam period face) (has_gap period face) clear
    where
      outcome : (s t b : Bool) → t ≡ false → ring (cond s (cond t (cond b (cut_anew period face) (on_strip period face)) (on_strip period face)) face) ≡ ring face
      outcome false t b h = refl
      outcome true false b h = e
      outcome true true b h = absurd (true≢false h)

  pub clear_rings : ((reseam period face).first ≡ face.first) × ((reseam period face).later ≡ face.later)
  unfolding on_strip
  clear_rings = (ring_stays (λ (f : Face A). f.first) refl, ring_stays (λ (f : Face A). f.later) refl)
