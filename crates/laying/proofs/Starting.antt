-- Both rings begun where the search finds it.
use Rattle.std.proofs.Common.{◌≡◌, ℕ, ◌+◌, ◌≤◌, ◌<◌, min, Bool, cond, List, length, take, sym, ap, ◌∙◌, arith}
use borrow.Author.Tests.{lt-ltb, le-ltb}
use lib.Ieee.{Float}
use lib.Seq.{length-take-le}
use Rattle.numbers.specs.declared.math.Vec3.{Vec3}
use Rattle.tables.specs.Corners.{Corners, us}
use Rattle.tables.specs.declared.corners.Corner.{Corner as Held}
use Rattle.tables.specs.Rows.{rows}
use Rattle.tables.proofs.Rows.{length-rows}
use Rattle.rings.specs.Choices.{first_of}
use Rattle.rings.specs.Starts.{first_for, later_for, start}
use Rattle.starts.specs.declared.trials.Search.{Search}
use Rattle.starts.specs.Search.{searched, search_within}
use Rattle.bands.specs.Rings.{Face, started}
use Rattle.bands.specs.Rings as bands
use Rattle.laying.specs.Held.{room_in, rings_in, started_within}

module _ (period : Float) (room : ℕ) (first later : List Held) where
  pub not_started : room < length first + length later → (holes : List (Corners Vec3)) → rings_in first later holes ≡ started_within period room (rings_in first later holes)
  unfolding started_within
  not_started h holes =
      let a = length-rows first in let b = length-rows later in let k : room < length (rows first) + length (rows later) = omega arith in
      sym (ap (λ (b : Bool). cond b (rings_in first later holes) (started period (rings_in first later holes))) (lt-ltb room (length (rows first) + length (rows later)) k))

  module _ (fits : length first + length later ≤ room) (r : Search) (r_is : r ≡ search_within period room (rows first) (rows later)) where
    found : r ≡ searched period (rows first) (rows later)
    unfolding search_within
    found =
        let a = length-rows first in let b = length-rows later in let h : length (rows first) + length (rows later) ≤ room = omega arith in
        r_is ∙ rw (le-ltb room (length (rows first) + length (rows later)) h)

    module _ (first' later' : Corners Vec3) (cut : Float) (ef : first' ≡ first_for period r.start (rows first)) (ec : cut ≡ first_of (us first'))
        (el : later' ≡ later_for period cut (rows later)) (holes : List (Corners Vec3)) where
      within : started_within period room (rings_in first later holes) ≡ started period (rings_in first later holes)
      unfolding started_within
      within =
          let a = length-rows first in let b = length-rows later in let h : length (rows first) + length (rows later) ≤ room = omega arith in
          ap (λ (b : Bool). cond b (rings_in first later holes) (started period (rings_in first later holes))) (le-ltb room (length (rows first) + length (rows later)) h)

      at-start : first' ≡ first_for period (start period (rows first) (rows later)) (rows first)
      at-start = ef ∙ ap (λ (s : Search). first_for period s.start (rows first)) found

      at_first : first' ≡ (started period (rings_in first later holes)).first
      unfolding started bands.trial
      at_first = at-start

      at-later : later' ≡ (started period (rings_in first later holes)).later
      unfolding started bands.trial
      at-later = el ∙ ap (λ (c : Float). later_for period c (rows later)) (ec ∙ ap (λ (s : Corners Vec3). first_of (us s)) at-start)

      pub first-started : first' ≡ (started_within period room (rings_in first later holes)).first
      first-started = at_first ∙ ap (λ (f : Face Vec3). f.first) (sym within)

      pub later-started : later' ≡ (started_within period room (rings_in first later holes)).later
      later-started = at-later ∙ ap (λ (f : Face Vec3). f.later) (sym within)

  -- what is answered, and the rings
  abbrev Taken : Search → Corners Vec3 → Corners Vec3 → Type 0
  Taken r first' later' = record {
    value : r ≡ search_within period room (rows first) (rows later);
    first_after : (holes : List (Corners Vec3)) → first' ≡ (started_within period room (rings_in first later holes)).first;
    later_after : (holes : List (Corners Vec3)) → later' ≡ (started_within period room (rings_in first later holes)).later;
  }

  pub none-taken : (r : Search) → r ≡ search_within period room (rows first) (rows later) → room < length first + length later → Taken r (rows first) (rows later)
  none-taken r r_is h = record {
    value = r_is;
    first_after = λ holes. ap (λ (f : Face Vec3). f.first) (not_started h holes);
    later_after = λ holes. ap (λ (f : Face Vec3). f.later) (not_started h holes);
  }

  pub start-taken : (r : Search) → r ≡ search_within period room (rows first) (rows later) → length first + length later ≤ room
      → (first₁ later₁ : Corners Vec3) (cut : Float) → first₁ ≡ first_for period r.start (rows first) → cut ≡ first_of (us first₁)
      → later₁ ≡ later_for period cut (rows later) → Taken r first₁ later₁
  start-taken r r_is h first₁ later₁ cut ef ec el = record {
    value = r_is;
    first_after = first-started h r r_is first₁ later₁ cut ef ec el;
    later_after = later-started h r r_is first₁ later₁ cut ef ec el;
  }

-- ---- with the room that the code finds

-- the least of the lengths, taken by twos, is at most each
module _ (u v x y z : List Float) (p q o room : ℕ) (p_is : p ≡ min (length u) (length v)) (o_is : o ≡ min (length y) (length z)) (q_is : q ≡ min (length x) o)
    (room_is : room ≡ min p q) where
  pub room_each : (room ≤ length u) × ((room ≤ length v) × ((room ≤ length x) × ((room ≤ length y) × (room ≤ length z))))
  room_each = (omega arith, (omega arith, (omega arith, (omega arith, omega arith))))

pub searched_in_room : (period : Float) (first later : Corners Vec3) (u v x y z : List Float) (room : ℕ) (r : Search) → room ≡ room_in u v x y z
    → r ≡ search_within period (length (take room u)) first later → r ≡ search_within period (room_in u v x y z) first later
searched_in_room period first later u v x y z room r e r_is =
    let h : room ≤ length u = omega arith in
    r_is ∙ ap (λ (j : ℕ). search_within period j first later) (length-take-le room u h ∙ e)
