-- The corners of a whole surface: the four corners of its domain are among them.
use Prim.Native.Nat.{ℕ, ◌+◌, ◌<◌}
use mathlib.Core.Path.{◌≡◌, refl, sym, ap, ◌∙◌, subst}
use mathlib.Core.Bool.{true, true≢false}
use mathlib.Core.List.{List, ◌∷◌, ◌++◌, map, reverse}
use native.Mathlib.Omega.{arith}
use lib.Ieee.{Float, nan, neg}
use lib.ListN.{length, get_or, length-append, length-map, get_or-map}
use lib.Seq.{get_or-append-add}
use Rattle.numbers.specs.Constants.{plus_zero, H, TAU}
use Rattle.numbers.specs.declared.math.Interval.{Interval}
use Rattle.numbers.specs.declared.math.Vec2.{Vec2}
use Rattle.surfaces.specs.declared.options.Resolved.{Resolved}
use Rattle.surfaces.specs.declared.surface.Domain.{Domain}
use Rattle.surfaces.specs.declared.surface.Surface.{Surface}
use Rattle.surfaces.specs.declared.surface.Surface.TheVariants.{Plane, Cylinder, Cone, Sphere, Torus}
use Rattle.surfaces.specs.Domains.{domain_of}
use Rattle.surfaces.specs.Rungs.{rungs, inner}
use Rattle.surfaces.proofs.knots.Ended.{drop_added}
use Rattle.full_domain.specs.Boundary.{is_whole, clamped, corner, sides, sides_of, steps_of, rungs_of, whole_corners, us_of, vs_of, Stands, FourCorners}
use Rattle.full_domain.proofs.boundary.Rungs.{all_rungs, backward, turn_rungs, sphere-rungs}

-- ---- a corner that stands in a list

abbrev none : Vec2
none = corner nan nan

abbrev Has : Vec2 → List Vec2 → Type 0
Has c cs = (k : ℕ) × (k < length cs) × (get_or cs k none ≡ c)

has_first : (c : Vec2) (cs : List Vec2) → Has c (c ∷ cs)
has_first c cs = (0, omega arith, refl)

has_later : (c : Vec2) (before cs : List Vec2) → Has c cs → Has c (before ++ cs)
has_later c before cs (k, h, e) = let n = length-append before cs in (length before + k, omega arith, get_or-append-add before cs k none ∙ e)

in_columns : (c : Vec2) (cs : List Vec2) → Has c cs → Stands c.u c.v (us_of cs) (vs_of cs)
in_columns c cs (k, h, e) =
    let n = length-map cs (λ (d : Vec2). d.u) in
    let m = length-map cs (λ (d : Vec2). d.v) in (
      k,
      omega arith,
      omega arith,
      get_or-map (λ (d : Vec2). d.u) cs k none ∙ ap (λ (d : Vec2). d.u) e,
      get_or-map (λ (d : Vec2). d.v) cs k none ∙ ap (λ (d : Vec2). d.v) e,
    )

-- ---- each side begins at a corner of the rectangle

module _ (ui vi : Interval) (us vs : List Float) where
  abbrev all : List Vec2
  all = sides (all_rungs ui us) (all_rungs vi vs) ui vi

  abbrev side₁ : List Vec2
  side₁ = map (λ u. corner u vi.lo) (ui.lo ∷ us)

  abbrev side₂ : List Vec2
  side₂ = map (λ v. corner ui.hi v) (vi.lo ∷ vs)

  abbrev side₃ : List Vec2
  side₃ = map (λ u. corner u vi.hi) (ui.hi ∷ reverse us)

  abbrev side₄ : List Vec2
  side₄ = map (λ v. corner ui.lo v) (vi.hi ∷ reverse vs)

  in_sides : all ≡ side₁ ++ (side₂ ++ (side₃ ++ side₄))
  unfolding sides
  in_sides =
      λ i. map (λ u. corner u vi.lo) (drop_added ui.lo ui.hi us i)
      ++ (map (λ v. corner ui.hi v) (drop_added vi.lo vi.hi vs i)
      ++ (map (λ u. corner u vi.hi) (backward ui us i) ++ map (λ v. corner ui.lo v) (backward vi vs i)))

  stands : (c : Vec2) → Has c (side₁ ++ (side₂ ++ (side₃ ++ side₄))) → Stands c.u c.v (us_of all) (vs_of all)
  stands c h = in_columns c all (subst (Has c) (sym in_sides) h)

  ends_stand : (Stands ui.lo vi.lo (us_of all) (vs_of all) × Stands ui.hi vi.lo (us_of all) (vs_of all))
      × (Stands ui.hi vi.hi (us_of all) (vs_of all) × Stands ui.lo vi.hi (us_of all) (vs_of all))
  ends_stand =
      let c₁ = corner ui.lo vi.lo in
      let c₂ = corner ui.hi vi.lo in
      let c₃ = corner ui.hi vi.hi in
      let c₄ = corner ui.lo vi.hi in
      let after₁ = map (λ u. corner u vi.lo) us ++ (side₂ ++ (side₃ ++ side₄)) in
      let after₂ = map (λ v. corner ui.hi v) vs ++ (side₃ ++ side₄) in
      let after₃ = map (λ u. corner u vi.hi) (reverse us) ++ side₄ in
      let after₄ = map (λ v. corner ui.lo v) (reverse vs) in
      let has₂ = has_later c₂ side₁ (side₂ ++ (side₃ ++ side₄)) (has_first c₂ after₂) in
      let has₃ = has_later c₃ side₁ (side₂ ++ (side₃ ++ side₄)) (has_later c₃ side₂ (side₃ ++ side₄) (has_first c₃ after₃)) in
      let has₄ = has_later c₄ side₁ (side₂ ++ (side₃ ++ side₄)) (has_later c₄ side₂ (side₃ ++ side₄) (has_later c₄ side₃ side₄ (has_first c₄ after₄))) in
      ((stands c₁ (has_first c₁ after₁), stands c₂ has₂), (stands c₃ has₃, stands c₄ has₄))

module _ (d : Domain) (xs ys : List Float) where
  abbrev Cornered : List Float → List Float → Type 0
  Cornered us vs = FourCorners d (us_of (sides us vs d.u d.v)) (vs_of (sides us vs d.u d.v))

  rectangle : {us vs : List Float} → us ≡ all_rungs d.u xs → vs ≡ all_rungs d.v ys → Cornered us vs
  rectangle {us} {vs} p q =
      let e = ends_stand d.u d.v xs ys in
      subst (λ (l : List Float). Cornered l vs) (sym p) (subst (Cornered (all_rungs d.u xs)) (sym q) (record {
        low_low = e.0.0;
        high_low = e.0.1;
        high_high = e.1.0;
        low_high = e.1.1;
      }))

abbrev turn_inner : ℕ → List Float
turn_inner n = inner (rungs plus_zero TAU (clamped n))

pub four-corners : (s : Surface) (o : Resolved) → is_whole s ≡ true → FourCorners (domain_of s) (us_of (whole_corners s o)) (vs_of (whole_corners s o))
unfolding whole_corners sides_of rungs_of steps_of domain_of
four-corners Plane o e = absurd (true≢false (sym e))
four-corners (Cylinder R) o e = absurd (true≢false (sym e))
four-corners (Cone R a) o e = absurd (true≢false (sym e))
four-corners (Sphere R) o e = rectangle (domain_of (Sphere R)) (turn_inner _) (inner (rungs (neg H) H (clamped _))) (turn_rungs _) (sphere-rungs _)
four-corners (Torus R r) o e = rectangle (domain_of (Torus R r)) (turn_inner _) (turn_inner _) (turn_rungs _) (turn_rungs _)
