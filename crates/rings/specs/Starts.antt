-- Where two rings begin, decided by their u alone. The sentences are those of 01, "Bands".
use Rattle.std.specs.Prelude.{ℕ, ◌-◌, Bool, cond, List, map, ltb, Float, length, get_or}
use Rattle.std.specs.Float.{nan}
use Rattle.numbers.specs.Rounded.{◌⊕◌, ◌⊖◌}
use Rattle.loops.specs.Branch.{branch_shift}
use Rattle.tables.specs.Corners.{Corner, Corners, us, move_u}
use Rattle.tables.specs.Moves.{unless_zero}
use Rattle.tables.specs.declared.moves.Move.{Move}
use Rattle.tables.specs.declared.moves.Move.TheVariants.{Up, Down}
use Rattle.rings.specs.Choices.{first_of, first_from, nearest, begins_backward, serve}
use Rattle.rings.specs.Turns.{begin_ring_at, align_at}

-- a ring of which the u alone are at hand: its corners carry nothing else
abbrev pub bare : List Float → Corners (Unit {0})
bare us = map (λ u. record { u = u; v = nan; at = tt }) us

abbrev pub less_u : {A : Type 0} → Float → Corner A → Corner A
less_u step = move_u (λ u. u ⊖ step)

module _ (period : Float) {A : Type 0} where
  abbrev pub raised : Corner A → Corner A
  raised = move_u (λ u. u ⊕ period)

  -- a later ring "begins at the point nearest the cut by periods", on the branch of the cut, "and closes at first u plus period"
  unfoldable pub align_cuts : Float → Corners A → Corners A
  align_cuts cut r =
      let k = nearest period cut (us r) in
      align_at raised (less_u (branch_shift (get_or (us r) k nan) cut period)) k r

  -- slid along u to begin at the cut
  unfoldable pub slide_to_cut : Float → Corners A → Corners A
  slide_to_cut cut r = let step = cut ⊖ first_of (us r) in unless_zero step (move_u (λ u. u ⊕ step)) r

  -- "starts k of the first ring": the first ring begun at its point k, and a later ring put to the cut
  abbrev pub first_for : ℕ → Corners A → Corners A
  first_for k first = begin_ring_at raised k first

  abbrev pub later_for : Float → Corners A → Corners A
  later_for cut later = slide_to_cut cut (align_cuts cut later)

  unfoldable pub serves : Corners A → Corners A → ℕ → Bool
  serves first later k = let begun = us (first_for k first) in serve period begun (us (later_for (first_of begun) later))

  -- "starts k of the first ring are tried from 0": all its points but the last, which repeats the first
  abbrev pub starts : Corners A → ℕ
  starts first = length first - 1

  -- "The first k that neither begins backward nor leaves a constant-u step on the seam", and `starts` where there is none
  unfoldable pub first_serving : Corners A → Corners A → ℕ
  first_serving first later = first_from (serves first later) 0 (starts first)

  -- "Only when there is none does the Rust's fallback run": past a backward first step
  unfoldable pub start : Corners A → Corners A → ℕ
  start first later = let k = first_serving first later in cond (ltb k (starts first)) k (cond (begins_backward (us first)) 1 0)

-- `later_for` of a ring of any points, corners or their u alone, of which `u` reads the u and `slid` moves one along u
module _ {A : Type 0} (u : A → Float) (slid : Move → A → A) (period : Float) where
  unfoldable pub later_by : Float → List A → List A
  later_by cut r =
      let k = nearest period cut (map u r) in
      let aligned = align_at (slid (Up period)) (slid (Down (branch_shift (get_or (map u r) k nan) cut period))) k r in
      let step = cut ⊖ first_of (map u aligned) in
      unless_zero step (slid (Up step)) aligned
