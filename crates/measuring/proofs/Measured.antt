-- The wraps and the areas of a face record's loops, from the records that are measured of them.
use Prim.Native.Nat.{ℕ, ◌+◌, ◌≤◌}
use mathlib.Core.Path.{◌≡◌, refl, sym, ap, ◌∙◌}
use mathlib.Core.List.{List, [], ◌∷◌, map, map-map}
use native.Mathlib.Omega.{arith}
use lib.IntN.{ℤ}
use lib.Ieee.{Float}
use lib.ListN.{length, take, length-map}
use Rattle.std.proofs.Common.{Option}
use Rattle.numbers.specs.declared.math.Vec3.{Vec3}
use Rattle.surfaces.specs.Domains.{u_period}
use Rattle.lists.specs.Placed.{placed}
use Rattle.lists.proofs.Placed.{front-placed}
use Rattle.loops.specs.Wrap.{net_wrap}
use Rattle.tables.specs.Corners.{Corners, us}
use Rattle.loop_records.specs.declared.LoopRecord.{LoopRecord}
use Rattle.call.specs.Face.{surface_in, loops_in, measured_in, wraps_in}
use Rattle.call.specs.Paths.{signed_area}
use Rattle.loop_records.specs.Loops.{record_of, records_from}
use Rattle.loop_records.proofs.Recorded.{length_records, wraps_recorded}

-- the areas of the records are those of the loops, one by one
pub areas-along : (p : Option Float) (start : ℕ) (ls : List (Corners Vec3)) → map (λ (l : LoopRecord). l.area) (records_from p start ls) ≡ map signed_area ls
unfolding records_from record_of
areas-along p start [] = refl
areas-along p start (r ∷ ls) = ap (λ (more : List Float). signed_area r ∷ more) (areas-along p (start + length r) ls)

wraps_measured : (s : List ℕ) → wraps_in s ≡ map (λ (r : Corners Vec3). net_wrap (u_period (surface_in s)) (us r)) (loops_in s)
unfolding measured_in
wraps_measured s = map-map _ _ (loops_in s)

-- the wraps of the records are those that the face record tells of
pub wraps-along : (s : List ℕ) (ls : List (Corners Vec3)) → ls ≡ loops_in s → map (λ (l : LoopRecord). l.wrap) (records_from (u_period (surface_in s)) 0 ls) ≡ wraps_in s
wraps-along s ls held =
    wraps_recorded (u_period (surface_in s)) 0 ls ∙ ap (map (λ (r : Corners Vec3). net_wrap (u_period (surface_in s)) (us r))) held ∙ sym (wraps_measured s)

-- the front of a slice that what is read out of the records was put into
front_read : {B : Type 0} (f : LoopRecord → B) (p : Option Float) (ls : List (Corners Vec3)) (n : ℕ) (b₀ b : List B) → n ≡ length ls → n ≤ length b₀
    → b ≡ placed 0 (map f (records_from p 0 ls)) b₀ → take n b ≡ map f (records_from p 0 ls)
front_read f p ls n b₀ b e room h =
    let many : length (map f (records_from p 0 ls)) ≡ n = length-map (records_from p 0 ls) f ∙ length_records p 0 ls ∙ sym e in
    (λ i. take (sym many i) (h i)) ∙ front-placed (map f (records_from p 0 ls)) b₀ (omega arith)

module _ (s : List ℕ) (ls : List (Corners Vec3)) (held : ls ≡ loops_in s) (n : ℕ) (n_is : n ≡ length ls) where
  -- a slice with room for them shows the wraps in its front
  pub wraps_shown : (w₀ w : List ℤ) → n ≤ length w₀ → w ≡ placed 0 (map (λ (l : LoopRecord). l.wrap) (records_from (u_period (surface_in s)) 0 ls)) w₀ → take n w ≡ wraps_in s
  wraps_shown w₀ w room e = front_read (λ (l : LoopRecord). l.wrap) (u_period (surface_in s)) ls n w₀ w n_is room e ∙ wraps-along s ls held

-- and the areas
pub areas_shown : (p : Option Float) (ls : List (Corners Vec3)) (n : ℕ) (a₀ a : List Float) → n ≡ length ls → n ≤ length a₀
    → a ≡ placed 0 (map (λ (l : LoopRecord). l.area) (records_from p 0 ls)) a₀ → take n a ≡ map signed_area ls
areas_shown p ls n a₀ a n_is room e = front_read (λ (l : LoopRecord). l.area) p ls n a₀ a n_is room e ∙ areas-along p 0 ls
