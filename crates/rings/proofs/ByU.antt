-- What is done to one kind of points is done alike to what is read of them: to corners as the code holds them, to corners, and to their u.
use Rattle.std.proofs.Common.{◌≡◌, ℕ, List, [], ◌∷◌, length, get_or, map, refl, sym, ap, ◌∙◌}
use lib.Ieee.{Float, nan}
use Rattle.numbers.specs.Rounded.{◌⊕◌, ◌⊖◌}
use Rattle.loops.specs.Branch.{branch_shift}
use Rattle.tables.specs.Corners.{Corner, Corners, us, move_u}
use Rattle.tables.specs.Moves.{moved_by, unless_zero}
use Rattle.tables.specs.Rows.{rows, corner_of, held_u}
use Rattle.tables.specs.declared.corners.Corner.{Corner as Held}
use Rattle.tables.specs.declared.moves.Move.{Move}
use Rattle.tables.specs.declared.moves.Move.TheVariants.{Up, Down}
use Rattle.rings.specs.Choices.{first_of, nearest}
use Rattle.rings.specs.Turns.{begin_ring_at, recut_at, align_at}
use Rattle.rings.specs.Starts.{bare, less_u, raised, align_cuts, slide_to_cut, first_for, later_for, later_by}
use Rattle.rings.proofs.Carried.{map-begin_ring_at, map-recut_at, map-align_at, map-unless_zero}
use Rattle.rings.proofs.Lengths.{length-begin_ring_at, length-align_at, length-unless_zero}

-- ---- a later ring put to the cut

-- g reads of points of one kind those of another, with the same u
module _ {A B : Type 0} (g : A → B) (u : A → Float) (u' : B → Float) (slid : Move → A → A) (slid' : Move → B → B) (same_u : (a : A) → u' (g a) ≡ u a)
    (same_slid : (m : Move) (a : A) → g (slid m a) ≡ slid' m (g a)) (period cut : Float) where
  us_same : (r : List A) → map u' (map g r) ≡ map u r
  us_same [] = refl
  us_same (a ∷ r) = λ i. same_u a i ∷ us_same r i

  -- by the u that are read beforehand
  abbrev aligned_by : List Float → List B → List B
  aligned_by us r = let k = nearest period cut us in align_at (slid' (Up period)) (slid' (Down (branch_shift (get_or us k nan) cut period))) k r

  abbrev put_by : List Float → List B → List B
  put_by us r = let step = cut ⊖ first_of us in unless_zero step (slid' (Up step)) r

  pub map-later_by : (r : List A) → map g (later_by u slid period cut r) ≡ later_by u' slid' period cut (map g r)
  unfolding later_by
  map-later_by r =
      map-unless_zero g (slid (Up step)) (slid' (Up step)) (same_slid (Up step)) step aligned
      ∙ (λ i. put_by ((sym (us_same aligned) ∙ ap (map u') aligned_same) i) (aligned_same i))
    where
      k : ℕ
      k = nearest period cut (map u r)

      shift : Float
      shift = branch_shift (get_or (map u r) k nan) cut period

      aligned : List A
      aligned = align_at (slid (Up period)) (slid (Down shift)) k r

      step : Float
      step = cut ⊖ first_of (map u aligned)

      aligned_same : map g aligned ≡ aligned_by (map u' (map g r)) (map g r)
      aligned_same =
          map-align_at g (slid (Up period)) (slid' (Up period)) (same_slid (Up period)) (slid (Down shift)) (slid' (Down shift)) (same_slid (Down shift)) k r
          ∙ ap (λ (l : List Float). aligned_by l (map g r)) (sym (us_same r))

-- as the code does it
module _ {A : Type 0} (u : A → Float) (slid : Move → A → A) (period cut : Float) (r r₁ r₂ : List A) (k : ℕ) (x shift begin : Float) where
  pub later_put : k ≡ nearest period cut (map u r) → x ≡ get_or (map u r) k nan → shift ≡ branch_shift x cut period → r₁ ≡ align_at (slid (Up period)) (slid (Down shift)) k r
      → begin ≡ first_of (map u r₁) → r₂ ≡ unless_zero (cut ⊖ begin) (slid (Up (cut ⊖ begin))) r₁ → r₂ ≡ later_by u slid period cut r
  unfolding later_by
  later_put k_is x_is shift_is e₁ begin_is e₂ =
      e₂ ∙ ap (λ (b : Float). unless_zero (cut ⊖ b) (slid (Up (cut ⊖ b))) r₁) begin_is
      ∙ ap (λ (l : List A). let step = cut ⊖ first_of (map u l) in unless_zero step (slid (Up step)) l) aligned
    where
      by : shift ≡ branch_shift (get_or (map u r) (nearest period cut (map u r)) nan) cut period
      by = shift_is ∙ ap (λ (y : Float). branch_shift y cut period) (x_is ∙ ap (λ (j : ℕ). get_or (map u r) j nan) k_is)

      aligned : r₁ ≡ align_at (slid (Up period)) (slid (Down (branch_shift (get_or (map u r) (nearest period cut (map u r)) nan) cut period))) (nearest period cut (map u r)) r
      aligned = e₁ ∙ (λ i. align_at (slid (Up period)) (slid (Down (by i))) (k_is i) r)

pub us-bare : (u : List Float) → us (bare u) ≡ u
us-bare [] = refl
us-bare (x ∷ u) = ap (λ l. x ∷ l) (us-bare u)

module _ (period cut : Float) where
  -- of corners it is the definition
  of_corners : {A : Type 0} (r : Corners A) → later_by (λ (c : Corner A). c.u) (λ m. move_u (moved_by m)) period cut r ≡ later_for period cut r
  unfolding later_by slide_to_cut align_cuts
  of_corners r = refl

  pub us_later : {A : Type 0} (r : Corners A) → us (later_for period cut r) ≡ later_by (λ u. u) moved_by period cut (us r)
  us_later {A} r =
      ap us (sym (of_corners r))
      ∙ map-later_by (λ (c : Corner A). c.u) (λ (c : Corner A). c.u) (λ u. u) (λ m. move_u (moved_by m)) moved_by (λ c. refl) (λ m c. refl) period cut r

  -- of u alone, as of a ring whose corners carry nothing else
  pub later_bare : (u : List Float) → us (later_for period cut (bare u)) ≡ later_by (λ u. u) moved_by period cut u
  later_bare u = us_later (bare u) ∙ ap (later_by (λ u. u) moved_by period cut) (us-bare u)

  -- the u put by themselves are those of the ring put
  pub later_by_u : {A : Type 0} (r : Corners A) → us (later_for period cut (bare (us r))) ≡ us (later_for period cut r)
  later_by_u r = later_bare (us r) ∙ sym (us_later r)

  pub length-later_for : {A : Type 0} (r : Corners A) → length (later_for period cut r) ≡ length r
  unfolding slide_to_cut align_cuts
  length-later_for r =
      let k = nearest period cut (us r) in
      let step = cut ⊖ first_of (us (align_cuts period cut r)) in
      length-unless_zero step (move_u (λ u. u ⊕ step)) (align_cuts period cut r) ∙ length-align_at (raised period) (less_u (branch_shift (get_or (us r) k nan) cut period)) k r

-- ---- the first ring, and a ring cut anew

module _ (period : Float) {A : Type 0} (k : ℕ) (r : Corners A) where
  pub first_by_u : begin_ring_at (moved_by (Up period)) k (us r) ≡ us (first_for period k r)
  first_by_u = sym (map-begin_ring_at (λ (c : Corner A). c.u) (raised period) (moved_by (Up period)) (λ c. refl) k r)

  pub length-first_for : length (first_for period k r) ≡ length r
  length-first_for = length-begin_ring_at (raised period) k r

module _ (f : Float → Float) (k : ℕ) (t : List Held) where
  pub rows-recut_at : rows (recut_at (held_u f) k t) ≡ recut_at (move_u f) k (rows t)
  unfolding rows
  rows-recut_at = map-recut_at corner_of (held_u f) (move_u f) (λ c. refl) k t
