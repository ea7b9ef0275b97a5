-- The walls of a strip, on plain lists and numbers.
use Prim.Native.Nat.{ℕ, ◌+◌, ◌≤◌}
use mathlib.Core.Path.{◌≡◌, refl, sym, ap, ◌∙◌}
use mathlib.Core.Bool.{Bool, true, false, cond}
use mathlib.Core.List.{List, ◌++◌, map, reverse}
use native.Mathlib.Omega.{arith}
use lib.Ieee.{Float, le}
use lib.ListN.{length, take, drop, length-map, length-reverse}
use lib.Seq.{sets, sets-eq}
use Rattle.numbers.specs.Order.{min_of, max_of}
use Rattle.surfaces.specs.declared.options.Resolved.{Resolved}
use Rattle.surfaces.specs.declared.surface.Surface.{Surface}
use Rattle.surfaces.specs.Rungs.{kept_divisions, rungs, inner}
use Rattle.surfaces.specs.Steps.{v_steps_of}
use Rattle.lists.specs.Placed.{placed}
use Rattle.surfaces.proofs.knots.Inner.{inner-take}
use Rattle.surfaces.proofs.knots.Rungs.{inner-kept}
use Rattle.lists.proofs.Maps.{map-take, map-reverse}
use Rattle.lists.proofs.Placed.{placed-fits, placed_whole}
use Rattle.lists.proofs.Stores.{sets-room}
use Rattle.bands.specs.Columns.{ladder_on, heights_on}
use Rattle.bands.specs.Strip.{ladder, heights}

-- ---- heights

pub placed-front : {A : Type 0} (w d : List A) (n : ℕ) → n ≡ length w → n ≤ length d → placed 0 w d ≡ w ++ drop n d
placed-front w d n e h =
    let place : 0 + length w ≡ n = omega arith in
    placed-fits 0 w d (omega arith) ∙ ap (λ (k : ℕ). w ++ drop k d) place

module _ (s : Surface) (o : Resolved) (a b : Float) where
  pub length-heights : length (heights_on s o a b) ≡ length (ladder_on s o a b)
  unfolding heights
  length-heights = by_order (le a b)
    where
      by_order : (t : Bool) → length (cond t (ladder_on s o a b) (reverse (ladder_on s o a b))) ≡ length (ladder_on s o a b)
      by_order true = refl
      by_order false = length-reverse (ladder_on s o a b)

  module _ (lo hi : Float) (n : ℕ) (least : lo ≡ min_of a b) (most : hi ≡ max_of a b) (steps : n ≡ v_steps_of s lo hi o) where
    ladder_is : inner (rungs lo hi n) ≡ ladder_on s o a b
    unfolding ladder
    ladder_is = ap (λ (k : ℕ). inner (rungs lo hi k)) steps ∙ (λ i. inner (rungs (least i) (most i) (v_steps_of s (least i) (most i) o)))

    pub count_is : (k : ℕ) → k ≡ length (inner (rungs lo hi n)) → k ≡ length (heights_on s o a b)
    count_is k e = e ∙ ap length ladder_is ∙ sym length-heights

    -- so many of the divisions kept behind the first as there are inner rungs
    pub raised_up : {B : Type 0} (f : Float → B) (os now : List B) → length os ≡ length (heights_on s o a b) → now ≡ sets os 0 (map f (drop 1 (kept_divisions lo hi n)))
        → now ≡ map f (ladder_on s o a b)
    raised_up f os now long e =
        let xs = kept_divisions lo hi n in
        let is : inner xs ≡ ladder_on s o a b = sym (inner-kept lo hi n) ∙ ladder_is in
        let m : length os ≡ length (inner xs) = long ∙ length-heights ∙ ap length (sym is) in
        let w : take (length (inner xs)) (map f (drop 1 xs)) ≡ map f (inner xs) = sym (map-take f (length (inner xs)) (drop 1 xs)) ∙ ap (map f) (inner-take xs) in
        let room : 0 + length (map f (inner xs)) ≤ length os = omega (arith, length-map (inner xs) f) in
        e ∙ sym (sets-room os 0 (length (inner xs)) (map f (drop 1 xs)) (omega arith)) ∙ ap (sets os 0) w
        ∙ sets-eq (map f (inner xs)) os 0 room ∙ sym (placed-fits 0 (map f (inner xs)) os room)
        ∙ placed_whole (map f (inner xs)) os (length-map (inner xs) f ∙ sym m) ∙ ap (map f) is

  -- the ladder as the first wall reads it
  module _ {B : Type 0} (f : Float → B) {up : List B} (is : up ≡ map f (ladder_on s o a b)) where
    pub read_up : le a b ≡ true → up ≡ map f (heights_on s o a b)
    unfolding heights
    read_up order = is ∙ sym (ap (λ (t : Bool). map f (cond t (ladder_on s o a b) (reverse (ladder_on s o a b)))) order)

    pub read_down : {down : List B} → le a b ≡ false → down ≡ reverse up → down ≡ map f (heights_on s o a b)
    unfolding heights
    read_down order turned =
        turned ∙ ap reverse is ∙ sym (map-reverse f (ladder_on s o a b))
        ∙ sym (ap (λ (t : Bool). map f (cond t (ladder_on s o a b) (reverse (ladder_on s o a b)))) order)
