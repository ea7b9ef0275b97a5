-- The whole path fills the result of a face that has no loops.
use Prim.Native.Nat.{ℕ}
use mathlib.Core.Path.{◌≡◌, refl, sym, ap, ◌∙◌}
use mathlib.Core.List.{List, [], ◌∷◌, map, append-nil}
use native.Mathlib.Omega.{arith}
use lib.Ieee.{Float}
use lib.ListN.{length, set, length-map}
use Rattle.numbers.specs.declared.math.Frame.{Frame}
use Rattle.numbers.specs.declared.math.Vec3.{Vec3}
use Rattle.lists.specs.Placed.{placed}
use Rattle.surfaces.specs.declared.options.Resolved.{Resolved}
use Rattle.surfaces.specs.declared.patch.Patch.{Patch}
use Rattle.surfaces.specs.declared.surface.Surface.{Surface}
use Rattle.filling.specs.Band.{patch_in}
use Rattle.tables.specs.Corners.{Corners}
use Rattle.tables.specs.Rows.{rows}
use Rattle.tables.specs.declared.corners.Corner.{Corner as Held}
use Rattle.tables.proofs.Rows.{length-rows}
use Rattle.full_domain.specs.Boundary.{whole_corners, whole_area, area_within}
use Rattle.full_domain.specs.Table.{placed_corner, whole_rows}
use Rattle.full_domain.proofs.boundary.Meaning.{few-corners, area-fits}
use Rattle.records.specs.Face.{loops}
use Rattle.records.specs.Refusals.{passes}
use Rattle.records.specs.Result.{corners_of}
use Rattle.results.specs.declared.Path.TheVariants.{Whole}
use Rattle.call.specs.Paths.{ResultLoop, loop_of, whole_loop}
use Rattle.std.specs.Prelude.{Ok}
use Rattle.filling.specs.Filled.{FillsTo}
use Rattle.filling.proofs.Chosen.{takes_whole, path_whole}
use Rattle.filling.proofs.Held.{held_in_front, set_front, filled_by_lem}

module _ (s : List ℕ) (bare : loops s ≡ 0) (patch : Patch) (patch_is : patch ≡ patch_in s) where
  abbrev surface : Surface
  surface = patch.surface

  abbrev frame : Frame
  frame = patch.frame

  abbrev options : Resolved
  options = patch.options

  abbrev boundary : ResultLoop
  boundary = loop_of (whole_area surface options) (whole_rows surface frame options)

  boundary_is : boundary ∷ [] ≡ whole_loop s ∷ []
  unfolding whole_loop whole_rows
  boundary_is =
      λ i. let p = patch_is i in
      loop_of (whole_area p.surface p.options) (map (placed_corner p.surface p.frame) (whole_corners p.surface p.options)) ∷ []

  rows_many : length (whole_rows surface frame options) ≡ length (whole_corners surface options)
  unfolding whole_rows
  rows_many = length-map (whole_corners surface options) (placed_corner surface frame)

  pub whole_filled : (c₀ c : List ℕ) (a₀ a : List Float) (t₀ t : List Held) (n : ℕ) (area : Float) → n ≡ length (whole_corners surface options) → area ≡ area_within (length (rows t₀)) surface options
      → c ≡ set c₀ 0 n → a ≡ set a₀ 0 area → rows t ≡ placed 0 (whole_rows surface frame options) (rows t₀)
      → length c₀ ≡ 16 → length a₀ ≡ 16 → length t₀ ≡ 1536 → FillsTo passes s (Ok (record { path = Whole; loops = 1 })) (record { corners = t; counts = c; areas = a })
  unfolding corners_of
  whole_filled c₀ c a₀ a t₀ t n area n_is area_is c_is a_is t_is c-room a-room t-room =
      let few = few-corners surface options in
      let many = rows_many in
      let room = length-rows t₀ in
      let corners : corners_of (boundary ∷ []) ≡ whole_rows surface frame options = append-nil (whole_rows surface frame options) in
      let long = ap length corners in
      filled_by_lem s Whole (boundary ∷ []) 1 c a t (path_whole s bare) (boundary_is ∙ sym (takes_whole s bare)) refl
      (held_in_front (boundary ∷ []) c₀ c a₀ a (rows t₀) t
      (c_is ∙ set_front n c₀ (omega arith) ∙ ap (λ (k : ℕ). placed 0 (k ∷ []) c₀) (n_is ∙ sym many))
      (a_is ∙ set_front area a₀ (omega arith) ∙ ap (λ (x : Float). placed 0 (x ∷ []) a₀) (area_is ∙ area-fits surface options (length (rows t₀)) (omega arith)))
      (t_is ∙ ap (λ (w : Corners Vec3). placed 0 w (rows t₀)) (sym corners))
      (omega arith) (omega arith) (omega arith))
