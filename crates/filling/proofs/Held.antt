-- Loops whose counts, areas and corners were put into the front of what is lent.
use Prim.Native.Nat.{ℕ, ◌+◌, ◌≤◌}
use mathlib.Core.Path.{◌≡◌, refl, sym, ap, ◌∙◌, subst}
use mathlib.Core.List.{List, [], ◌∷◌, map}
use native.Mathlib.Omega.{arith}
use lib.Ieee.{Float}
use lib.ListN.{length, take, set, length-map, length-append}
use Rattle.numbers.specs.declared.math.Vec3.{Vec3}
use Rattle.lists.specs.Placed.{placed}
use Rattle.lists.proofs.Placed.{placed-fits, front-placed}
use Rattle.tables.specs.Corners.{Corners}
use Rattle.tables.specs.Rows.{rows}
use Rattle.tables.specs.declared.corners.Corner.{Corner as Held}
use Rattle.lists.specs.Elements.{sum}
use Rattle.records.specs.Refusals.{passes}
use Rattle.records.specs.Result.{Loop, corners_of, count_of, area_of}
use Rattle.results.specs.declared.Path.{Path}
use Rattle.call.specs.Paths.{ResultLoop, result_loops}
use Rattle.std.specs.Prelude.{Ok}
use Rattle.filling.specs.Filled.{HoldsResult, path_taken, FillsTo}

pub counts_together : {C : Type 0} (ls : List (Loop C)) → sum (map count_of ls) ≡ length (corners_of ls)
unfolding sum corners_of
counts_together [] = refl
counts_together (l ∷ ls) = ap (λ (n : ℕ). count_of l + n) (counts_together ls) ∙ sym (length-append l.corners (corners_of ls))

module _ (ls : List ResultLoop) (c₀ c : List ℕ) (a₀ a : List Float) (r₀ : Corners Vec3) (t : List Held) where
  pub held_in_front : c ≡ placed 0 (map count_of ls) c₀ → a ≡ placed 0 (map area_of ls) a₀ → rows t ≡ placed 0 (corners_of ls) r₀
      → length ls ≤ length c₀ → length ls ≤ length a₀ → length (corners_of ls) ≤ length r₀ → HoldsResult ls (take (length ls) c) a t
  held_in_front c_is a_is t_is c-room a-room r-room =
      let counts_many = length-map ls count_of in
      let areas_many = length-map ls area_of in
      let counts_are : take (length ls) c ≡ map count_of ls = (λ i. take (sym counts_many i) (c_is i)) ∙ front-placed (map count_of ls) c₀ (omega arith) in
      let loops_many : length (take (length ls) c) ≡ length (map area_of ls) = ap length counts_are ∙ counts_many ∙ sym areas_many in
      let corners-many : sum (take (length ls) c) ≡ length (corners_of ls) = ap sum counts_are ∙ counts_together ls in
      record {
        counts_are = counts_are;
        areas_are = (λ i. take (loops_many i) (a_is i)) ∙ front-placed (map area_of ls) a₀ (omega arith);
        corners_are = (λ i. take (corners-many i) (t_is i)) ∙ front-placed (corners_of ls) r₀ r-room;
      }

-- one store at the front
pub set_front : {A : Type 0} (x : A) (l : List A) → 0 + 1 ≤ length l → set l 0 x ≡ placed 0 (x ∷ []) l
set_front x [] h = absurd (omega arith)
set_front x (y ∷ l) h = sym (placed-fits 0 (x ∷ []) (y ∷ l) h)

-- a face that is closed
pub filled_by_lem : (s : List ℕ) (path : Path) (ls : List ResultLoop) (n : ℕ) (counts : List ℕ) (areas : List Float) (t : List Held) → path ≡ path_taken s → ls ≡ result_loops s → n ≡ length ls
    → HoldsResult ls (take (length ls) counts) areas t → FillsTo passes s (Ok (record { path = path; loops = n })) (record { corners = t; counts = counts; areas = areas })
filled_by_lem s path ls n counts areas t path_is ls_is n_is h = record {
  answer = refl;
  face = λ i. record { path = path_is i; loops = (n_is ∙ ap length ls_is) i };
  holds = λ e. subst (λ (k : List ResultLoop). HoldsResult k (take (length k) counts) areas t) ls_is h;
}
