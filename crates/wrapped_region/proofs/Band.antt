-- What `close_ordered` closes is the band of bands/specs/Band.antt, where its two rings are those that are joined there.
use Rattle.std.proofs.Common.{◌≡◌, ℕ, Ok, Err, ◌≤◌, Bool, true, false, cond, not, leb, map, length, take, refl, ◌∙◌}
use Rattle.numbers.specs.declared.math.Vec3.{Vec3}
use Rattle.tables.specs.Corners.{Corners, move_v}
use Rattle.bands.specs.Given.{Given}
use Rattle.bands.specs.Rings.{Face}
use Rattle.bands.specs.Strip.{Setting, strip}
use Rattle.bands.specs.Band.{first_is_lower, lift, mean_v, goes_with, joined, lower_first, lower_ring, upper_ring, strip_of, outer}
use Rattle.strip.specs.Closing.{closed_as, no_room, band_between, closing_of, closed_into}
use Rattle.strip.proofs.closing.Laws.{band_closed}
use Rattle.wrapped_region.specs.Ordered.{first_lower, lower_of, upper_of}

-- the face's holes have no part in it
module _ (S : Setting Vec3) (given : Given Vec3) (face : Face Vec3) (first_is : face.first ≡ (joined S given).first) (later_is : face.later ≡ (joined S given).later) where
  abbrev with₁ : Bool
  with₁ = goes_with S given.first

  abbrev with₂ : Bool
  with₂ = goes_with S given.later

  same_order : first_lower S with₁ with₂ face ≡ lower_first S given
  unfolding first_lower lower_first
  same_order = λ i. first_is_lower S.v_period with₁ with₂ (mean_v (first_is i)) (mean_v (later_is i))

  pub lower-ring : lower_of S with₁ with₂ face ≡ lower_ring S given
  unfolding lower_of lower_ring
  lower-ring = λ i. cond (same_order i) (first_is i) (later_is i)

  -- the upper ring between two, where t says whether the first is the lower one
  abbrev upper_by : (t with_l with_u : Bool) (first later : Corners Vec3) → Corners Vec3
  upper_by t with_l with_u first later =
      let up = cond (not t) first later in map (move_v (lift S.v_period with_l with_u (mean_v (cond t first later)) (mean_v up))) up

  by_order : (t : Bool) (first later : Corners Vec3)
      → upper_by t (cond t with₁ with₂) (cond (not t) with₁ with₂) first later
      ≡ upper_by t (goes_with S (cond t given.first given.later)) (goes_with S (cond (not t) given.first given.later)) first later
  by_order true first later = refl
  by_order false first later = refl

  pub upper-ring : upper_of S with₁ with₂ face ≡ upper_ring S given
  unfolding upper_of lower_of upper_ring lower_ring
  upper-ring =
      (λ i. upper_by (same_order i) (cond (same_order i) with₁ with₂) (cond (not (same_order i)) with₁ with₂) (first_is i) (later_is i))
      ∙ by_order (lower_first S given) (joined S given).first (joined S given).later

  same-strip : strip S (lower_of S with₁ with₂ face) (upper_of S with₁ with₂ face) ≡ strip_of S given
  unfolding strip_of
  same-strip = λ i. strip S (lower-ring i) (upper-ring i)

  same-band : band_between S (lower_of S with₁ with₂ face) (upper_of S with₁ with₂ face) ≡ outer S given
  unfolding band_between outer strip_of
  same-band = λ i. band_between S (lower-ring i) (upper-ring i)

  module _ (room : ℕ) where
    pub closing_is : closing_of S (lower_of S with₁ with₂ face) (upper_of S with₁ with₂ face) room
        ≡ cond (leb (length (strip_of S given)) room) (Ok (closed_as (outer S given))) (Err (no_room (length (strip_of S given))))
    unfolding closing_of
    closing_is =
        λ i. cond (leb (length (same-strip i)) room) (Ok (closed_as (same-band i))) (Err (no_room (length (same-strip i))))

    -- the band in front of the result's table, which held `old` and now holds `out`
    pub outer_in_front : (old out : Corners Vec3) → out ≡ closed_into S (lower_of S with₁ with₂ face) (upper_of S with₁ with₂ face) room old
        → length (strip_of S given) ≤ room → room ≤ length old → take (length (outer S given)) out ≡ outer S given
    outer_in_front old out is fits within =
        let n : length (strip S (lower_of S with₁ with₂ face) (upper_of S with₁ with₂ face)) ≤ room = rw same-strip fits in
        rw same-band at (band_closed S (lower_of S with₁ with₂ face) (upper_of S with₁ with₂ face) room old out is n within)
