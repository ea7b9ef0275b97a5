-- The refusals 8 to 11 of a face record, loop by loop.
use Prim.Native.Nat.{ℕ, zero, suc}
use mathlib.Core.Path.{◌≡◌, refl, sym, ap, ◌∙◌}
use mathlib.Core.Bool.{Bool, true, false, cond, not, ◌&&◌}
use mathlib.Core.List.{List, [], ◌∷◌, map, map-map, map-id}
use lib.IntN.{pos}
use lib.ListN.{length, get_or, length-map}
use Rattle.numbers.specs.Position.{same}
use Rattle.numbers.specs.declared.math.Vec3.{Vec3}
use Rattle.loops.specs.Rings.{ends_meet}
use Rattle.tables.specs.Corners.{Corners, positions}
use Rattle.bands.specs.Given.{Measured, wraps}
use Rattle.lists.specs.Elements.{only}
use Rattle.records.specs.Bytes.{◌=?◌, ◌<?◌}
use Rattle.records.specs.Face.{loops}
use Rattle.records.specs.Refusals.{nowhere, when, first_where}
use Rattle.call.specs.Face.{loops_in, measured_in, wraps_in, is_wrapping, wrapping}
use Rattle.call.specs.Later.{wraps_at, open_at, open_among, wrapping_of, one_among, many_among, open_ring, one_ring, many_rings}
use Rattle.call.proofs.Loops.{loops_many, measured_many}

-- ---- lists

get_or_mapped : {A B : Type 0} (f : A → B) (l : List A) (k : ℕ) (d : A) → get_or (map f l) k (f d) ≡ f (get_or l k d)
get_or_mapped f [] k d = refl
get_or_mapped f (a ∷ l) zero d = refl
get_or_mapped f (a ∷ l) (suc k) d = get_or_mapped f l k d

only_mapped : {A B : Type 0} (f : A → B) (test : B → Bool) (l : List A) → length (only test (map f l)) ≡ length (only (λ a. test (f a)) l)
unfolding only
only_mapped f test [] = refl
only_mapped f test (a ∷ l) = by_test (test (f a)) (only_mapped f test l)
  where
    by_test : (t : Bool) → length (only test (map f l)) ≡ length (only (λ x. test (f x)) l)
        → length (cond t (f a ∷ only test (map f l)) (only test (map f l))) ≡ length (cond t (a ∷ only (λ x. test (f x)) l) (only (λ x. test (f x)) l))
    by_test true e = ap suc e
    by_test false e = e

-- ---- the record

-- past the last loop
abbrev pub none : Measured Vec3
none = record { corners = []; wrap = pos 0 }

-- loop k
unfoldable pub loop_in : List ℕ → ℕ → Measured Vec3
loop_in s k = get_or (measured_in s) k none

abbrev pub is_open : Measured Vec3 → Bool
is_open m = not (ends_meet same (positions m.corners))

module _ (s : List ℕ) where
  pub wrap_in : (k : ℕ) → get_or (wraps_in s) k (pos 0) ≡ (loop_in s k).wrap
  unfolding loop_in
  wrap_in k = get_or_mapped (λ (m : Measured Vec3). m.wrap) (measured_in s) k none

  pub wraps_in_lem : (k : ℕ) → wraps_at (wraps_in s) k ≡ is_wrapping (loop_in s k)
  unfolding wraps_at
  wraps_in_lem k = ap wraps (wrap_in k)

  -- the loops without their wraps
  pub unmarked : map (λ (m : Measured Vec3). m.corners) (measured_in s) ≡ loops_in s
  unfolding measured_in
  unmarked = map-map _ _ (loops_in s) ∙ map-id (loops_in s)

  pub corners_in_lem : (k : ℕ) → (loop_in s k).corners ≡ get_or (loops_in s) k []
  unfolding loop_in
  corners_in_lem k = sym (get_or_mapped (λ (m : Measured Vec3). m.corners) (measured_in s) k none) ∙ ap (λ (l : List (Corners Vec3)). get_or l k []) unmarked

  pub open_ring_is : open_ring s ≡ first_where (loops s) (λ k. is_wrapping (loop_in s k) && is_open (loop_in s k))
  unfolding open_ring open_among open_at
  open_ring_is = λ i. first_where (loops_many s i) (λ k. wraps_in_lem k i && not (ends_meet same (positions (sym (corners_in_lem k) i))))

  as_many_wraps : length (wraps_in s) ≡ loops s
  as_many_wraps = length-map (measured_in s) (λ (m : Measured Vec3). m.wrap) ∙ measured_many s

  pub wrapping_in : wrapping_of (wraps_in s) ≡ wrapping s
  unfolding wrapping_of wrapping
  wrapping_in = only_mapped (λ (m : Measured Vec3). m.wrap) wraps (measured_in s)

  pub one-ring_is : one_ring s ≡ cond (wrapping s =? 1) (first_where (loops s) (λ k. is_wrapping (loop_in s k))) nowhere
  unfolding one_ring one_among
  one-ring_is = λ i. cond (wrapping_in i =? 1) (first_where (as_many_wraps i) (λ k. wraps_in_lem k i)) nowhere

  pub many_rings_is : many_rings s ≡ when (2 <? wrapping s) (wrapping s)
  unfolding many_rings many_among
  many_rings_is = λ i. when (2 <? wrapping_in i) (wrapping_in i)
