-- The band between two rings, step by step: laid, cut anew, begun, and closed in their order.
use Prim.Native.Nat.{ℕ, ◌+◌, ◌≤◌}
use mathlib.Core.Path.{◌≡◌, ap, ◌∙◌}
use mathlib.Core.Bool.{Bool}
use mathlib.Core.List.{List}
use native.Mathlib.Omega.{arith}
use borrow.Author.Tests.{le-leb, le-ltb}
use lib.ListN.{length}
use Rattle.numbers.specs.declared.math.Vec3.{Vec3}
use Rattle.lists.specs.Pieces.{pieces}
use Rattle.tables.specs.Corners.{Corners}
use Rattle.tables.specs.Rows.{rows}
use Rattle.tables.specs.declared.corners.Corner.{Corner as Held}
use Rattle.tables.proofs.Rows.{length-rows}
use Rattle.bands.specs.Given.{Given}
use Rattle.bands.specs.Rings.{Face, laid, reseam, started, trial}
use Rattle.bands.specs.Strip.{Setting}
use Rattle.bands.specs.Band.{goes_with, joined, holes}
use Rattle.strip.specs.Closing.{closing_of, closed_into}
use Rattle.std.specs.Prelude.{Result}
use Rattle.strip.specs.declared.closing.Closed.{Closed}
use Rattle.strip.specs.declared.closing.TooMany.{TooMany}
use Rattle.wrapped_region.specs.Ordered.{lower_of, upper_of}
use Rattle.laying.specs.Held.{face_in, rings_in, reseam_within, started_within}
use Rattle.laying.specs.Held.{given_in as held_in}
use Rattle.wrapped_region.specs.Rings.{rings_of}
use Rattle.wrapped_region.proofs.Band.{closing_is, outer_in_front}
use Rattle.records.specs.Limits.{version1}
use Rattle.filling.specs.Band.{band_closing, BandIs}

module _ (S : Setting Vec3) (counts : List ℕ) (first₀ later₀ holes₀ first₁ later₁ first₂ later₂ holes₂ first₃ later₃ : List Held) (ff lf : Bool) (n room : ℕ)
    (laid_first : (hs : List (Corners Vec3)) → rows first₁ ≡ (laid S.period (held_in first₀ later₀ ff lf hs)).first)
    (laid_later : (hs : List (Corners Vec3)) → rows later₁ ≡ (laid S.period (held_in first₀ later₀ ff lf hs)).later)
    (seamed : face_in counts first₂ later₂ holes₂ ≡ reseam_within S.period counts n (face_in counts first₁ later₁ holes₀))
    (Begun_first : (hs : List (Corners Vec3)) → rows first₃ ≡ (started_within S.period room (rings_in first₂ later₂ hs)).first)
    (begun_later : (hs : List (Corners Vec3)) → rows later₃ ≡ (started_within S.period room (rings_in first₂ later₂ hs)).later)
    (few : length counts ≤ n) (short : length (rows first₂) + length (rows later₂) ≤ room) where
  abbrev given : Given Vec3
  given = held_in first₀ later₀ ff lf (pieces counts (rows holes₀))

  laid_is : face_in counts first₁ later₁ holes₀ ≡ laid S.period given
  unfolding laid
  laid_is = λ i. record { first = laid_first (pieces counts (rows holes₀)) i; later = laid_later (pieces counts (rows holes₀)) i; holes = pieces counts (rows holes₀) }

  seamed_is : face_in counts first₂ later₂ holes₂ ≡ reseam S.period (laid S.period given)
  unfolding reseam_within
  seamed_is = seamed ∙ rw (le-leb (length counts) n few) (ap (reseam S.period) laid_is)

  begun_is : started_within S.period room (rings_in first₂ later₂ (pieces counts (rows holes₂))) ≡ joined S given
  unfolding started_within joined
  begun_is = rw (le-ltb room (length (rows first₂) + length (rows later₂)) short) (ap (started S.period) seamed_is)

  first_is : rows first₃ ≡ (joined S given).first
  first_is = Begun_first (pieces counts (rows holes₂)) ∙ ap (λ (f : Face Vec3). f.first) begun_is

  later_is : rows later₃ ≡ (joined S given).later
  later_is = begun_later (pieces counts (rows holes₂)) ∙ ap (λ (f : Face Vec3). f.later) begun_is

  holes_are : pieces counts (rows holes₂) ≡ holes S given
  unfolding holes joined started trial
  holes_are = ap (λ (f : Face Vec3). f.holes) seamed_is

  -- close_ordered has room for a strip of k corners, and t is its table
  pub between : (with₁ with₂ : Bool) (k : ℕ) (t t' : List Held) (r : Result Closed TooMany) → with₁ ≡ goes_with S given.first → with₂ ≡ goes_with S given.later
      → r ≡ closing_of S (lower_of S with₁ with₂ (rings_of first₃ later₃)) (upper_of S with₁ with₂ (rings_of first₃ later₃)) k
      → rows t' ≡ closed_into S (lower_of S with₁ with₂ (rings_of first₃ later₃)) (upper_of S with₁ with₂ (rings_of first₃ later₃)) k (rows t)
      → k ≡ version1.strip → length t ≡ 1536
      → BandIs S given r t' (pieces counts (rows holes₂))
  unfolding band_closing
  between with₁ with₂ k t t' r e₁ e₂ answer out room_is t_long =
      let face : Face Vec3 = rings_of first₃ later₃ in
      let l = length-rows t in
      let within : version1.strip ≤ length (rows t) = omega arith in
      record {
        answer = answer ∙ (λ i. closing_of S (lower_of S (e₁ i) (e₂ i) face) (upper_of S (e₁ i) (e₂ i) face) (room_is i)) ∙ closing_is S given face first_is later_is version1.strip;
        band = λ fits. outer_in_front S given face first_is later_is version1.strip (rows t) (rows t')
            (out ∙ (λ i. closed_into S (lower_of S (e₁ i) (e₂ i) face) (upper_of S (e₁ i) (e₂ i) face) (room_is i) (rows t))) fits within;
        holes_are = holes_are;
      }

-- the rings keep their lengths
pub still_short : (first first₂ later later₂ : List Held) (n k l : ℕ) → k ≡ length first → length first₂ ≡ k → l ≡ length later → length later₂ ≡ l
    → length (rows first) + length (rows later) ≤ n → length (rows first₂) + length (rows later₂) ≤ n
still_short first first₂ later later₂ n k l e₁ e₂ f₁ f₂ h =
    let a = length-rows first in
    let b = length-rows first₂ in
    let c = length-rows later in
    let d = length-rows later₂ in
    omega arith
