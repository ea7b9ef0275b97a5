-- 01, "Closed faces": holes "are then moved by whole periods, middle to middle; a moved hole's area is worked out anew", on loops of corners.
use Rattle.std.specs.Prelude.{ℕ, suc, Bool, cond, ◌&&◌, eqb, leb, ltb, length, get_or, Float}
use mathlib.Core.List.{List, [], ◌∷◌, map, flatten}
use Rattle.std.specs.Float.Ieee.{lt, eq}
use Rattle.numbers.specs.Constants.{plus_zero}
use Rattle.numbers.specs.Round.{round_away}
use Rattle.numbers.specs.Rounded.{◌⊖◌, ◌⊗◌, ◌⊘◌}
use Rattle.numbers.specs.declared.math.Vec3.{Vec3}
use Rattle.lists.specs.Placed.{placed}
use Rattle.loops.specs.Span.{middle_of}
use Rattle.tables.specs.Corners.{Corners, us, vs, move_u, move_v}
use Rattle.tables.specs.Moves.{moved_by}
use Rattle.tables.specs.declared.moves.Move.TheVariants.{Up}
use Rattle.closed_region.specs.Loops.{area_in}
use Rattle.closed_region.specs.declared.rephase.Branch.{Branch}

-- "whole periods, middle to middle": what is added to parameters whose middle is `from` to bring it nearest to `to`. A direction whose period is not
-- above zero is open, and nothing is added there.
unfoldable pub whole_periods : Float → Float → Float → Float
whole_periods period from to = cond (lt plus_zero period) (round_away ((to ⊖ from) ⊘ period) ⊗ period) plus_zero

-- where the outer loop has its middle, with the periods
abbrev pub branch_in : Float → Float → Corners Vec3 → Branch
branch_in uperiod vperiod r = record { umid = middle_of (us r); vmid = middle_of (vs r); uperiod = uperiod; vperiod = vperiod }

-- moved by su and sv; positions stay
abbrev pub shifted : Float → Float → Corners Vec3 → Corners Vec3
shifted su sv r = map (move_v (moved_by (Up sv))) (map (move_u (moved_by (Up su))) r)

abbrev pub u_shift : Branch → Corners Vec3 → Float
u_shift b r = whole_periods b.uperiod (middle_of (us r)) b.umid

abbrev pub v_shift : Branch → Corners Vec3 → Float
v_shift b r = whole_periods b.vperiod (middle_of (vs r)) b.vmid

abbrev pub in_phase : Branch → Corners Vec3 → Bool
in_phase b r = eq (u_shift b r) plus_zero && eq (v_shift b r) plus_zero

-- both shifts are added wherever one of them is not zero
unfoldable pub rephased_corners : Branch → Corners Vec3 → Corners Vec3
rephased_corners b r = cond (in_phase b r) r (shifted (u_shift b r) (v_shift b r) r)

-- "a moved hole's area is worked out anew"
unfoldable pub rephased_area : Branch → Corners Vec3 → Float → Float
rephased_area b r area = cond (in_phase b r) area (area_in (shifted (u_shift b r) (v_shift b r) r))

module _ (outer : ℕ) (b : Branch) where
  -- loop k and its area: as they are for the outer loop
  abbrev pub loop_then : ℕ → Corners Vec3 → Corners Vec3
  loop_then k r = cond (eqb k outer) r (rephased_corners b r)

  abbrev pub area_then : ℕ → Corners Vec3 → Float → Float
  area_then k r area = cond (eqb k outer) area (rephased_area b r area)

  -- loops of which the first has the number k
  unfoldable pub loops_then : ℕ → List (Corners Vec3) → List (Corners Vec3)
  loops_then k [] = []
  loops_then k (l ∷ ls) = loop_then k l ∷ loops_then (suc k) ls

  unfoldable pub areas_then : ℕ → List (Corners Vec3) → List Float → List Float
  areas_then k [] areas = []
  areas_then k (l ∷ ls) [] = []
  areas_then k (l ∷ ls) (a ∷ areas) = area_then k l a ∷ areas_then (suc k) ls areas

module _ (outer : ℕ) (uperiod vperiod : Float) (ls : List (Corners Vec3)) (areas : List Float) where
  -- the outer loop is one of theirs, and each has an area
  abbrev pub is_face : Bool
  is_face = ltb outer (length ls) && leb (length ls) (length areas)

  abbrev pub outer_branch : Branch
  outer_branch = branch_in uperiod vperiod (get_or ls outer [])

  -- the rows of which the first are the loops
  unfoldable pub rephased_rows : Corners Vec3 → Corners Vec3
  rephased_rows r = cond is_face (placed 0 (flatten (loops_then outer outer_branch 0 ls)) r) r

  unfoldable pub rephased_areas : List Float
  rephased_areas = cond is_face (placed 0 (areas_then outer outer_branch 0 ls areas) areas) areas
