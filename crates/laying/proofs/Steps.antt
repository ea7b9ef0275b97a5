-- Both rings laid: each step is the definition's own, with its parts read by calls.
use mathlib.Core.Path.{◌≡◌, sym, ap, ◌∙◌, subst}
use mathlib.Core.Bool.{Bool, true, false, cond}
use mathlib.Core.List.{List, [], ◌∷◌, map, reverse}
use lib.Ieee.{Float, binary64, fits}
use Rattle.numbers.specs.Rounded.{◌⊖◌}
use Rattle.numbers.specs.declared.math.Vec3.{Vec3}
use Rattle.loops.specs.Branch.{branch_shift, LandsNear}
use Rattle.loops.proofs.Landing.{moved_answer}
use Rattle.tables.specs.Corners.{Corners, us, move_u}
use Rattle.tables.specs.Moves.{moved_by}
use Rattle.tables.specs.declared.moves.Move.TheVariants.{Down}
use Rattle.tables.specs.Rows.{rows}
use Rattle.tables.specs.declared.corners.Corner.{Corner as Held}
use Rattle.rings.specs.Choices.{least_u, first_of}
use Rattle.bands.specs.Rings.{rising, shifted, laid}
use Rattle.rings.specs.Starts.{less_u}
use Rattle.laying.specs.Held.{loop_in, given_in}

pub rises : (t : List Held) (falls : Bool) (r : Corners Vec3) → falls ≡ true → r ≡ reverse (rows t) → r ≡ rising (loop_in t falls)
unfolding rising
rises t falls r h e = e ∙ ap (λ (b : Bool). cond b (reverse (rows t)) (rows t)) (sym h)

pub stays : (t : List Held) (falls : Bool) → falls ≡ false → rows t ≡ rising (loop_in t falls)
unfolding rising
stays t falls h = ap (λ (b : Bool). cond b (reverse (rows t)) (rows t)) (sym h)

module _ (period : Float) where
  shift_is : (least first step : Float) (r r' : Corners Vec3) → first ≡ first_of (us r) → step ≡ branch_shift first least period
      → r' ≡ map (move_u (moved_by (Down step))) r → r' ≡ shifted period least r
  unfolding shifted
  shift_is least first step r r' a b e = e ∙ ap (λ (s : Float). map (less_u s) r) (b ∙ ap (λ (x : Float). branch_shift x least period) a)

  -- the ring's first point, near the least u; of no points nothing is said
  first_lands : (least first step : Float) (r : Corners Vec3) → fits binary64 first ≡ true → fits binary64 least ≡ true
      → first ≡ first_of (us r) → step ≡ branch_shift first least period
      → LandsNear (first_of (us r)) least period (first_of (us (map (move_u (moved_by (Down step))) r)))
  unfolding LandsNear
  first_lands least first step [] f g ef es = λ e v w. absurd v
  first_lands least first step (c ∷ r) f g ef es =
      let fits-first = subst (λ (y : Float). fits binary64 y ≡ true) ef f in
      let step_is : step ≡ branch_shift c.u least period = es ∙ ap (λ (y : Float). branch_shift y least period) ef in
      moved_answer c.u least period (c.u ⊖ step) fits-first g (ap (λ (y : Float). c.u ⊖ y) step_is)

  pub shift_answer : (least first step : Float) (r r' : Corners Vec3) → fits binary64 first ≡ true → fits binary64 least ≡ true
      → first ≡ first_of (us r) → step ≡ branch_shift first least period → r' ≡ map (move_u (moved_by (Down step))) r
      → (r' ≡ shifted period least r) × LandsNear (first_of (us r)) least period (first_of (us r'))
  shift_answer least first step r r' f g ef es e =
      let lands = first_lands least first step r f g ef es in
      (shift_is least first step r r' ef es e, subst (λ (s : Corners Vec3). LandsNear (first_of (us r)) least period (first_of (us s))) (sym e) lands)

  module _ (first later : List Held) (f l : Bool) (holes : List (Corners Vec3)) (least : Float) (r r' : Corners Vec3)
      (least_is : least ≡ least_u (us (rows first)) (us (rows later))) (shifted_is : r' ≡ shifted period least r) where
    pub first-laid : r ≡ rising (loop_in first f) → r' ≡ (laid period (given_in first later f l holes)).first
    unfolding laid
    first-laid e = shifted_is ∙ (λ i. shifted period (least_is i) (e i))

    pub later-laid : r ≡ rising (loop_in later l) → r' ≡ (laid period (given_in first later f l holes)).later
    unfolding laid
    later-laid e = shifted_is ∙ (λ i. shifted period (least_is i) (e i))
