-- The rings that are found, and the sign of a travel.
use Prim.Native.Nat.{ℕ}
use mathlib.Core.Path.{◌≡◌, sym, ap, ◌∙◌}
use mathlib.Core.Bool.{Bool}
use mathlib.Core.List.{List}
use mir.Syntax.{w32}
use mir.Val.{of_z, to_z, SFits}
use mir.Facts.{to_z-of_z}
use lib.IntN.{ℤ}
use lib.Ieee.{Float}
use lib.ListN.{length}
use Rattle.lists.specs.Placed.{placed}
use Rattle.bands.specs.Given.{falls}
use Rattle.records.specs.Answers.{place_of}
use Rattle.records.specs.Refusals.{at, first_where}
use Rattle.records.specs.Refusals as Sought
use Rattle.std.specs.Prelude.{Option, Some, None}
use Rattle.std.specs.Option.{unwrap_or}
use Rattle.call.specs.Face.{wrapping, wraps_in}
use Rattle.call.specs.Later.{wraps_at}
use Rattle.measuring.specs.LastWhere.{last_where}
use Rattle.holes.specs.Others.{others}
use Rattle.filling.specs.Band.{RingsOf}
use Rattle.filling.proofs.TwoRings.{some_first, some_last}

-- the areas that are picked are those of the loops
pub areas-put : (a b : ℕ) (m m' dst dst' : List Float) → m ≡ m' → dst' ≡ placed 1 (others a b m) dst → dst' ≡ placed 1 (others a b m') dst
areas-put a b m m' dst dst' e put = put ∙ ap (λ (x : List Float). placed 1 (others a b x) dst) e

-- ---- both rings are found

number_found : (p : Option ℕ) (q : Sought.Place) (n : ℕ) → place_of p ≡ q → (q ≡ Sought.nowhere → ⊥) → n ≡ unwrap_or p 0 → q ≡ at n
number_found None q n e some is = absurd (some (sym e))
number_found (Some k) q n e some is = sym e ∙ ap at (sym is)

pub rings_found : (s : List ℕ) (wraps : List ℤ) (p q : Option ℕ) (a b : ℕ) → wraps ≡ wraps_in s → wrapping s ≡ 2
    → place_of p ≡ last_where (length wraps) (wraps_at wraps) → a ≡ unwrap_or p 0
    → place_of q ≡ first_where (length wraps) (wraps_at wraps) → b ≡ unwrap_or q 0
    → RingsOf s a b
rings_found s wraps p q a b wraps_are two p_is a_is q_is b_is = record {
  two = two;
  first_is = number_found p _ a (p_is ∙ ap (λ (ws : List ℤ). last_where (length ws) (wraps_at ws)) wraps_are) (some_last s two) a_is;
  later_is = number_found q _ b (q_is ∙ ap (λ (ws : List ℤ). first_where (length ws) (wraps_at ws)) wraps_are) (some_first s two) b_is;
}

pub falls_held : (t : Bool) (z : ℤ) → SFits w32 z → t ≡ falls (to_z w32 (of_z w32 z)) → t ≡ falls z
falls_held t z f e = e ∙ ap falls (to_z-of_z f)
