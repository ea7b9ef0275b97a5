-- A table's columns taken out of it, and a table put together from five, row after row.
use Rattle.std.proofs.Common.{◌≡◌, ℕ, zero, suc, ◌+◌, ◌≤◌, ◌<◌, min, List, [], ◌∷◌, length, get_or, set, take, map, refl, sym, ap, ◌∙◌, arith}
use native.Mathlib.Nat.{suc-min-suc}
use lib.Ieee.{Float, nan}
use lib.ListN.{length-map}
use lib.Seq.{get_or-take, length-take-le}
use Rattle.numbers.specs.declared.math.Vec3.{Vec3}
use Rattle.lists.specs.Placed.{placed}
use Rattle.lists.proofs.Elements.{get_d_map}
use Rattle.lists.proofs.Filling.{Filling, front, front_turn, filling_end}
use Rattle.lists.proofs.Placed.{placed_short}
use Rattle.tables.specs.Corners.{Corner, Corners, us, vs, xs, ys, zs}
use Rattle.tables.specs.Columns.{Reads, corners_of}
use Rattle.tables.specs.Rows.{rows, corner_of, none}
use Rattle.tables.specs.declared.corners.Corner.{Corner as Held}
use Rattle.tables.proofs.Rows.{absent, length-rows, rows-set, row_at}

-- ---- taken out

-- after i turns; `post` is what is known of what is read of a corner
module _ (post : Held → Float → Type 0) (t : List Held) (d₀ : List Float) where
  abbrev pub Taking : List Float → ℕ → Type 0
  Taking d i = (of : Corner Vec3 → Float) → Reads post of → Filling 0 (map of (rows t)) d₀ d i

  length-column : (of : Corner Vec3 → Float) → length (map of (rows t)) ≡ length t
  length-column of = length-map (rows t) of ∙ length-rows t

  pub taking : length t ≤ length d₀ → Taking d₀ 0
  taking h of r = let l = length-column of in front (map of (rows t)) d₀ (omega arith)

  pub taking_turn : (d : List Float) (i : ℕ) (x : Float) → Taking d i → i < length t → post (get_or t i absent) x → Taking (set d i x) (i + 1)
  taking_turn d i x k h p of r =
      let l = length-column of in
      let m = length-rows t in
      front_turn (map of (rows t)) d₀ d i x nan (k of r) (omega arith)
      (r (get_or t i absent) x p ∙ sym (ap of (row_at t i h)) ∙ sym (get_d_map of (rows t) i nan none (omega arith)))

  pub taking_end : (d : List Float) (i : ℕ) → Taking d i → length t ≤ i → (of : Corner Vec3 → Float) → Reads post of → d ≡ placed 0 (map of (rows t)) d₀
  taking_end d i k h of r = let l = length-column of in filling_end 0 (map of (rows t)) d₀ d i (k of r) (omega arith)

  pub taking_none : length d₀ < length t → (of : Corner Vec3 → Float) → Reads post of → d₀ ≡ placed 0 (map of (rows t)) d₀
  taking_none h of r = let l = length-column of in sym (placed_short 0 (map of (rows t)) d₀ (omega arith))

-- ---- put together

-- the columns of some corners make them again
pub corners-back : (r : Corners Vec3) → corners_of (us r) (vs r) (xs r) (ys r) (zs r) ≡ r
unfolding corners_of
corners-back [] = refl
corners-back (c ∷ r) = ap (λ (l : Corners Vec3). c ∷ l) (corners-back r)

length-corners : (u v x y z : List Float) → length (corners_of u v x y z) ≡ min (min (length u) (length v)) (min (length x) (min (length y) (length z)))
unfolding corners_of
length-corners (a ∷ u) (b ∷ v) (c ∷ x) (d ∷ y) (e ∷ z) = simp suc-min-suc (ap suc (length-corners u v x y z))
length-corners [] v x y z = omega arith
length-corners (a ∷ u) [] x y z = omega arith
length-corners (a ∷ u) (b ∷ v) [] y z = omega arith
length-corners (a ∷ u) (b ∷ v) (c ∷ x) [] z = omega arith
length-corners (a ∷ u) (b ∷ v) (c ∷ x) (d ∷ y) [] = omega arith

corner_here : (u v x y z : List Float) (i : ℕ) → i < length u → i < length v → i < length x → i < length y → i < length z
    → get_or (corners_of u v x y z) i none ≡ record { u = get_or u i nan; v = get_or v i nan; at = record { x = get_or x i nan; y = get_or y i nan; z = get_or z i nan } }
unfolding corners_of
corner_here (a ∷ u) (b ∷ v) (c ∷ x) (d ∷ y) (e ∷ z) zero hu hv hx hy hz = refl
corner_here (a ∷ u) (b ∷ v) (c ∷ x) (d ∷ y) (e ∷ z) (suc i) hu hv hx hy hz = corner_here u v x y z i (omega arith) (omega arith) (omega arith) (omega arith) (omega arith)
corner_here [] v x y z i hu hv hx hy hz = absurd (omega arith)
corner_here (a ∷ u) [] x y z i hu hv hx hy hz = absurd (omega arith)
corner_here (a ∷ u) (b ∷ v) [] y z i hu hv hx hy hz = absurd (omega arith)
corner_here (a ∷ u) (b ∷ v) (c ∷ x) [] z i hu hv hx hy hz = absurd (omega arith)
corner_here (a ∷ u) (b ∷ v) (c ∷ x) (d ∷ y) [] i hu hv hx hy hz = absurd (omega arith)

module _ (u v x y z : List Float) (t₀ : List Held) (n : ℕ) where
  abbrev all : Corners Vec3
  all = corners_of u v x y z

  pub record Putting (t : List Held) (i : ℕ) : Type 0 where
    pub short_u : n ≤ length u
    pub short_v : n ≤ length v
    pub short_x : n ≤ length x
    pub short_y : n ≤ length y
    pub short_z : n ≤ length z
    pub count : n ≡ length all
    pub fill : Filling 0 all (rows t₀) (rows t) i

  module _ (n_is : n ≡ min (min (length u) (length v)) (min (length x) (min (length y) (length z)))) where
    pub putting : n ≤ length t₀ → Putting t₀ 0
    putting h =
        let l = length-corners u v x y z in
        let m = length-rows t₀ in
        record {
          short_u = omega arith;
          short_v = omega arith;
          short_x = omega arith;
          short_y = omega arith;
          short_z = omega arith;
          count = omega arith;
          fill = front all (rows t₀) (omega arith);
        }

    pub putting_none : length t₀ < n → rows t₀ ≡ placed 0 all (rows t₀)
    putting_none h = let l = length-corners u v x y z in let m = length-rows t₀ in sym (placed_short 0 all (rows t₀) (omega arith))

  -- the table keeps its length
  pub putting-long : (t : List Held) (i : ℕ) → Putting t i → length t ≡ length t₀
  putting-long t i k = sym (length-rows t) ∙ k.fill.long ∙ length-rows t₀

  -- of any table whose rows are those of t with corner i of the five columns stored at i
  pub putting_turn : (t t' : List Held) (i : ℕ) → Putting t i → i < n
      → rows t' ≡ set (rows t) i (record { u = get_or u i nan; v = get_or v i nan; at = record { x = get_or x i nan; y = get_or y i nan; z = get_or z i nan } })
      → Putting t' (i + 1)
  putting_turn t t' i k h e = record {
    short_u = k.short_u;
    short_v = k.short_v;
    short_x = k.short_x;
    short_y = k.short_y;
    short_z = k.short_z;
    count = k.count;
    fill = rw e (front_turn all (rows t₀) (rows t) i (record { u = get_or u i nan; v = get_or v i nan; at = record { x = get_or x i nan; y = get_or y i nan; z = get_or z i nan } }) none k.fill (omega (arith, k.count))
        (sym (corner_here u v x y z i (omega (arith, k.short_u)) (omega (arith, k.short_v)) (omega (arith, k.short_x)) (omega (arith, k.short_y)) (omega (arith, k.short_z)))));
  }

  -- the u are gone over, the others read at the same place
  abbrev held_at : ℕ → Held
  held_at i = record { u = get_or (take n u) i nan; v = get_or v i nan; at = record { x = get_or x i nan; y = get_or y i nan; z = get_or z i nan } }

  -- and stored so
  pub putting_held : (t : List Held) (i : ℕ) → Putting t i → i < length (take n u) → Putting (set t i (held_at i)) (i + 1)
  putting_held t i k l =
      let h : i < n = omega (arith, length-take-le n u k.short_u) in
      putting_turn t (set t i (held_at i)) i k h
      (rows-set t i (held_at i) ∙ ap (λ (a : Float). set (rows t) i (record { u = a; v = get_or v i nan; at = (corner_of (held_at i)).at })) (get_or-take n u i nan h))

  pub putting_end : (t : List Held) (i : ℕ) → Putting t i → length (take n u) ≤ i → rows t ≡ placed 0 all (rows t₀)
  putting_end t i k h = filling_end 0 all (rows t₀) (rows t) i k.fill (omega (arith, k.count, length-take-le n u k.short_u))
