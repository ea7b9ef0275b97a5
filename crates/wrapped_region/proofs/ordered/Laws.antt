-- Two rings in their order: which is lower, and the upper one lifted.
use Rattle.std.proofs.Common.{◌≡◌, ℕ, Result, Option, Some, None, Bool, true, false, cond, not, map, sym, refl, ap, ◌∙◌}
use lib.Ieee.{Float}
use Rattle.numbers.specs.declared.math.Vec3.{Vec3}
use Rattle.surfaces.specs.Domains.{v_period}
use Rattle.surfaces.specs.declared.patch.Patch.{Patch}
use Rattle.rings.proofs.Carried.{map-unchanged}
use Rattle.tables.specs.Corners.{Corners, move_v}
use Rattle.tables.specs.Moves.{moved_by}
use Rattle.tables.specs.declared.moves.Move.TheVariants.{Up}
use Rattle.bands.specs.Columns.{setting_on}
use Rattle.bands.specs.Rings.{Face}
use Rattle.bands.specs.Strip.{Setting}
use Rattle.bands.specs.Band.{first_is_lower, lift, mean_v, pick}
use Rattle.strip.specs.Closing.{closing_of, closed_into}
use Rattle.strip.specs.declared.closing.Closed.{Closed}
use Rattle.strip.specs.declared.closing.TooMany.{TooMany}
use Rattle.wrapped_region.specs.Ordered.{crosses, lifted_by, first_lower, lower_of, upper_of}

-- ---- the upper ring lifted

pub stays_open : (period : Option Float) (t : Bool) (r : Corners Vec3) → period ≡ None → r ≡ map (move_v (lifted_by period t)) r
unfolding lifted_by
stays_open period t r e = sym ((λ i. map (move_v (lifted_by (e i) t)) r) ∙ map-unchanged r)

module _ (period : Option Float) (t : Bool) (p : Float) (e : period ≡ Some p) where
  pub lifts : t ≡ true → (r r' : Corners Vec3) → r' ≡ map (move_v (moved_by (Up p))) r → r' ≡ map (move_v (lifted_by period t)) r
  unfolding lifted_by
  lifts h r r' d = d ∙ sym (λ i. map (move_v (lifted_by (e i) (h i))) r)

  pub stays_low : t ≡ false → (r : Corners Vec3) → r ≡ map (move_v (lifted_by period t)) r
  unfolding lifted_by
  stays_low h r = sym ((λ i. map (move_v (lifted_by (e i) (h i))) r) ∙ map-unchanged r)

lift_is : (q : Option Float) (a b : Bool) (m n : Float) (up : Corners Vec3) → map (move_v (lift q a b m n)) up ≡ map (move_v (lifted_by q (crosses a b m n))) up
unfolding lift lifted_by crosses
lift_is None a b m n up = refl
lift_is (Some p) a b m n up = refl

-- ---- which is lower

module _ (S : Setting Vec3) (with₁ with₂ : Bool) (face : Face Vec3) where
  -- the upper ring, where t says whether the first is the lower one
  upper_by : (t : Bool) → first_lower S with₁ with₂ face ≡ t
      → upper_of S with₁ with₂ face ≡ map (move_v (lifted_by S.v_period (crosses (cond t with₁ with₂) (cond (not t) with₁ with₂) (mean_v (pick t face)) (mean_v (pick (not t) face))))) (pick (not t) face)
  unfolding upper_of lower_of
  upper_by t e =
      ap (λ (b : Bool). map (move_v (lift S.v_period (cond b with₁ with₂) (cond (not b) with₁ with₂) (mean_v (pick b face)) (mean_v (pick (not b) face)))) (pick (not b) face)) e
      ∙ lift_is S.v_period (cond t with₁ with₂) (cond (not t) with₁ with₂) (mean_v (pick t face)) (mean_v (pick (not t) face)) (pick (not t) face)

  module _ (p : Option Float) (mean₁ mean₂ : Float) (t crossed : Bool) (period_is : p ≡ S.v_period) (mean₁_is : mean₁ ≡ mean_v face.first)
      (mean₂_is : mean₂ ≡ mean_v face.later) (t_is : t ≡ first_is_lower p with₁ with₂ mean₁ mean₂) where
    decided : first_lower S with₁ with₂ face ≡ t
    unfolding first_lower
    decided = sym (t_is ∙ (λ i. first_is_lower (period_is i) with₁ with₂ (mean₁_is i) (mean₂_is i)))

    module _ (h : t ≡ true) (crossed_is : crossed ≡ crosses with₁ with₂ mean₁ mean₂) where
      pub first-lower : first_lower S with₁ with₂ face ≡ true
      first-lower = decided ∙ h

      pub lower-first : lower_of S with₁ with₂ face ≡ face.first
      unfolding lower_of
      lower-first = ap (λ (b : Bool). pick b face) first-lower

      pub upper-later : upper_of S with₁ with₂ face ≡ map (move_v (lifted_by S.v_period crossed)) face.later
      upper-later =
          upper_by true first-lower ∙ sym (λ i. map (move_v (lifted_by S.v_period ((crossed_is ∙ (λ j. crosses with₁ with₂ (mean₁_is j) (mean₂_is j))) i))) face.later)

    module _ (h : t ≡ false) (crossed_is : crossed ≡ crosses with₂ with₁ mean₂ mean₁) where
      pub later-lower : first_lower S with₁ with₂ face ≡ false
      later-lower = decided ∙ h

      pub lower-later : lower_of S with₁ with₂ face ≡ face.later
      unfolding lower_of
      lower-later = ap (λ (b : Bool). pick b face) later-lower

      pub upper_first : upper_of S with₁ with₂ face ≡ map (move_v (lifted_by S.v_period crossed)) face.first
      upper_first =
          upper_by false later-lower ∙ sym (λ i. map (move_v (lifted_by S.v_period ((crossed_is ∙ (λ j. crosses with₂ with₁ (mean₂_is j) (mean₁_is j))) i))) face.first)

-- ---- what is answered, and what the tables hold

module _ (patch : Patch) (period : Float) where
  abbrev On : Bool → Setting Vec3
  On sense = setting_on patch period sense

  -- between a lower and an upper ring
  abbrev pub Between : Corners Vec3 → Corners Vec3 → ℕ → Corners Vec3 → Result Closed TooMany → Corners Vec3 → Type 0
  Between lower upper room old r now = ((sense : Bool) → r ≡ closing_of (On sense) lower upper room) × ((sense : Bool) → now ≡ closed_into (On sense) lower upper room old)

  pub between : (p : Option Float) (t : Bool) (lower upper up : Corners Vec3) (room : ℕ) (old : Corners Vec3) (r : Result Closed TooMany) (now : Corners Vec3) → p ≡ v_period patch.surface
      → up ≡ map (move_v (lifted_by p t)) upper → Between lower up room old r now
      → ((sense : Bool) → r ≡ closing_of (On sense) lower (map (move_v (lifted_by (v_period patch.surface) t)) upper) room)
      × (((sense : Bool) → now ≡ closed_into (On sense) lower (map (move_v (lifted_by (v_period patch.surface) t)) upper) room old) × (up ≡ map (move_v (lifted_by (v_period patch.surface) t)) upper))
  between p t lower upper up room old r now e lifted closes =
      let is : up ≡ map (move_v (lifted_by (v_period patch.surface) t)) upper = lifted ∙ (λ i. map (move_v (lifted_by (e i) t)) upper) in (
        λ sense. closes.0 sense ∙ ap (λ (l : Corners Vec3). closing_of (On sense) lower l room) is,
        (λ sense. closes.1 sense ∙ ap (λ (l : Corners Vec3). closed_into (On sense) lower l room old) is, is),
      )

  module _ (with₁ with₂ : Bool) (face : Face Vec3) (room : ℕ) (old : Corners Vec3) (r : Result Closed TooMany) (now first later : Corners Vec3) where
    abbrev Ordered : Type 0
    Ordered =
        ((sense : Bool) → r ≡ closing_of (On sense) (lower_of (On sense) with₁ with₂ face) (upper_of (On sense) with₁ with₂ face) room)
        × (((sense : Bool) → now ≡ closed_into (On sense) (lower_of (On sense) with₁ with₂ face) (upper_of (On sense) with₁ with₂ face) room old)
        × (((sense : Bool) → first ≡ cond (first_lower (On sense) with₁ with₂ face) face.first (upper_of (On sense) with₁ with₂ face))
        × ((sense : Bool) → later ≡ cond (first_lower (On sense) with₁ with₂ face) (upper_of (On sense) with₁ with₂ face) face.later)))

    module _ (p : Option Float) (mean₁ mean₂ : Float) (t crossed : Bool) (period_is : p ≡ v_period patch.surface) (mean₁_is : mean₁ ≡ mean_v face.first)
        (mean₂_is : mean₂ ≡ mean_v face.later) (t_is : t ≡ first_is_lower p with₁ with₂ mean₁ mean₂) where
      pub ordered_first : t ≡ true → crossed ≡ crosses with₁ with₂ mean₁ mean₂
          → Between face.first (map (move_v (lifted_by (v_period patch.surface) crossed)) face.later) room old r now
          → first ≡ face.first → later ≡ map (move_v (lifted_by (v_period patch.surface) crossed)) face.later → Ordered
      ordered_first h c closes stays lifted = (
        λ sense. closes.0 sense ∙ sym (λ i. closing_of (On sense) (low sense i) (up sense i) room),
        (
          λ sense. closes.1 sense ∙ sym (λ i. closed_into (On sense) (low sense i) (up sense i) room old),
          (
            λ sense. stays ∙ sym (ap (λ (b : Bool). cond b face.first (upper_of (On sense) with₁ with₂ face)) (is sense)),
            λ sense. lifted ∙ sym (up sense) ∙ sym (ap (λ (b : Bool). cond b (upper_of (On sense) with₁ with₂ face) face.later) (is sense)),
          ),
        ),
      )
        where
          is : (sense : Bool) → first_lower (On sense) with₁ with₂ face ≡ true
          is sense = first-lower (On sense) with₁ with₂ face p mean₁ mean₂ t crossed period_is mean₁_is mean₂_is t_is h c

          low : (sense : Bool) → lower_of (On sense) with₁ with₂ face ≡ face.first
          low sense = lower-first (On sense) with₁ with₂ face p mean₁ mean₂ t crossed period_is mean₁_is mean₂_is t_is h c

          up : (sense : Bool) → upper_of (On sense) with₁ with₂ face ≡ map (move_v (lifted_by (v_period patch.surface) crossed)) face.later
          up sense = upper-later (On sense) with₁ with₂ face p mean₁ mean₂ t crossed period_is mean₁_is mean₂_is t_is h c

      pub ordered_later : t ≡ false → crossed ≡ crosses with₂ with₁ mean₂ mean₁
          → Between face.later (map (move_v (lifted_by (v_period patch.surface) crossed)) face.first) room old r now
          → later ≡ face.later → first ≡ map (move_v (lifted_by (v_period patch.surface) crossed)) face.first → Ordered
      ordered_later h c closes stays lifted = (
        λ sense. closes.0 sense ∙ sym (λ i. closing_of (On sense) (low sense i) (up sense i) room),
        (
          λ sense. closes.1 sense ∙ sym (λ i. closed_into (On sense) (low sense i) (up sense i) room old),
          (
            λ sense. lifted ∙ sym (up sense) ∙ sym (ap (λ (b : Bool). cond b face.first (upper_of (On sense) with₁ with₂ face)) (is sense)),
            λ sense. stays ∙ sym (ap (λ (b : Bool). cond b (upper_of (On sense) with₁ with₂ face) face.later) (is sense)),
          ),
        ),
      )
        where
          is : (sense : Bool) → first_lower (On sense) with₁ with₂ face ≡ false
          is sense = later-lower (On sense) with₁ with₂ face p mean₁ mean₂ t crossed period_is mean₁_is mean₂_is t_is h c

          low : (sense : Bool) → lower_of (On sense) with₁ with₂ face ≡ face.later
          low sense = lower-later (On sense) with₁ with₂ face p mean₁ mean₂ t crossed period_is mean₁_is mean₂_is t_is h c

          up : (sense : Bool) → upper_of (On sense) with₁ with₂ face ≡ map (move_v (lifted_by (v_period patch.surface) crossed)) face.first
          up sense = upper_first (On sense) with₁ with₂ face p mean₁ mean₂ t crossed period_is mean₁_is mean₂_is t_is h c
