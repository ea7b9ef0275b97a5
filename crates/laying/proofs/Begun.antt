-- A ring begun on copies of its columns: each column goes the way of the corners.
use Rattle.std.proofs.Common.{◌≡◌, ℕ, ◌≤◌, List, ◌++◌, length, get_or, take, map, refl, sym, ap, ◌∙◌, arith}
use Rattle.std.proofs.lemmas.List.{take_at}
use lib.Ieee.{Float, nan}
use lib.ListN.{length-map}
use Rattle.numbers.specs.Rounded.{◌⊕◌, ◌⊖◌}
use Rattle.numbers.specs.declared.math.Vec3.{Vec3}
use Rattle.lists.specs.Placed.{placed}
use Rattle.lists.proofs.Placed.{placed_whole, front-placed}
use Rattle.loops.specs.Branch.{branch_shift}
use Rattle.loops.specs.Rings.{unchanged}
use Rattle.tables.specs.Corners.{Corner, Corners, us, vs, xs, ys, zs, move_u}
use Rattle.tables.specs.Columns.{corners_of}
use Rattle.tables.specs.Moves.{moved_by}
use Rattle.tables.specs.declared.moves.Move.TheVariants.{Stay, Up}
use Rattle.tables.specs.declared.corners.Corner.{Corner as Held}
use Rattle.tables.specs.Rows.{rows}
use Rattle.tables.proofs.ColumnLaws.{corners-back}
use Rattle.tables.proofs.Rows.{length-rows}
use Rattle.rings.specs.Choices.{first_of, nearest}
use Rattle.rings.specs.Turns.{begin_ring_at, align_at}
use Rattle.rings.specs.Starts.{less_u, raised, align_cuts, slide_to_cut, first_for, later_for, later_by}
use Rattle.rings.proofs.Carried.{unless_unchanged, map-unless_zero, map-begin_ring_at, map-align_at}
use Rattle.rings.proofs.ByU.{first_by_u, us_later, length-first_for, length-later_for}
use Rattle.rings.proofs.ReadRows.{us_of_reals}
use Rattle.laying.specs.Held.{room_in}

-- put together again
together : (r R r' : Corners Vec3) (u v x y z : List Float) → length R ≡ length r → u ≡ us R → v ≡ vs R → x ≡ xs R → y ≡ ys R → z ≡ zs R
    → r' ≡ placed 0 (corners_of u v x y z) r → r' ≡ R
together r R r' u v x y z l eu ev ex ey ez e =
    e ∙ (λ i. placed 0 (corners_of (eu i) (ev i) (ex i) (ey i) (ez i)) r) ∙ ap (λ (w : Corners Vec3). placed 0 w r) (corners-back R) ∙ placed_whole R r l

-- a column in the front of an array that has room for it, and another that was put there
module _ (of : Corner Vec3 → Float) (r : Corners Vec3) (n : ℕ) (n_is : n ≡ length r) where
  column_read : (R : Corners Vec3) (p d : List Float) → length R ≡ length r → p ≡ map of R → take n (p ++ d) ≡ map of R
  column_read R p d l e = ap (λ (q : List Float). take n (q ++ d)) e ∙ take_at (map of R) d n (length-map R of ∙ l ∙ sym n_is)

  module _ (w w₁ : List Float) (room : n ≤ length w) (copied : w₁ ≡ placed 0 (map of r) w) where
    column_is : take n w₁ ≡ map of r
    column_is =
        let e : n ≡ length (map of r) = n_is ∙ sym (length-map r of) in
        let fits : length (map of r) ≤ length w = omega arith in
        ap (take n) copied ∙ ap (λ (j : ℕ). take j (placed 0 (map of r) w)) e ∙ front-placed (map of r) w fits

    module _ (p : List Float) (stays : (f : Float → Float) (c : Corner Vec3) → of (move_u f c) ≡ of c) (period : Float) where
      begun_column : (k : ℕ) → p ≡ begin_ring_at (moved_by Stay) k (take n w₁) → p ≡ map of (first_for period k r)
      begun_column k e =
          e ∙ ap (begin_ring_at (moved_by Stay) k) column_is ∙ sym (map-begin_ring_at of (raised period) (moved_by Stay) (stays (λ u. u ⊕ period)) k r)

      aligned_column : (cut : Float) (near : ℕ) → near ≡ nearest period cut (us r) → p ≡ align_at (moved_by Stay) (moved_by Stay) near (take n w₁)
          → p ≡ map of (later_for period cut r)
      unfolding slide_to_cut align_cuts
      aligned_column cut near e f =
          let k = nearest period cut (us r) in
          let aligned = align_cuts period cut r in
          let step = cut ⊖ first_of (us aligned) in
          f ∙ (λ i. align_at (moved_by Stay) (moved_by Stay) (e i) (column_is i))
          ∙ sym (map-align_at of (raised period) (moved_by Stay) (stays (λ u. u ⊕ period)) (less_u (branch_shift (get_or (us r) k nan) cut period)) (moved_by Stay) (stays (λ u. u ⊖ branch_shift (get_or (us r) k nan) cut period)) k r)
          ∙ sym (map-unless_zero of (move_u (λ u. u ⊕ step)) unchanged (stays (λ u. u ⊕ step)) step aligned ∙ unless_unchanged step (map of aligned))

abbrev u_of : Corner Vec3 → Float
u_of c = c.u

abbrev v_of : Corner Vec3 → Float
v_of c = c.v

abbrev x_of : Corner Vec3 → Float
x_of c = c.at.x

abbrev y_of : Corner Vec3 → Float
y_of c = c.at.y

abbrev z_of : Corner Vec3 → Float
z_of c = c.at.z

-- u₁ to z₁ hold the columns of t in front, u₂ to z₂ are what is made of these, and the rest of each array lies behind
module _ (period : Float) (t t' : List Held) (u v x y z u₁ v₁ x₁ y₁ z₁ u₂ v₂ x₂ y₂ z₂ u₃ v₃ x₃ y₃ z₃ : List Float) (room : length t ≤ room_in u v x y z)
    (u_copied : u₁ ≡ placed 0 (us (rows t)) u) (v_copied : v₁ ≡ placed 0 (vs (rows t)) v) (x_copied : x₁ ≡ placed 0 (xs (rows t)) x)
    (y_copied : y₁ ≡ placed 0 (ys (rows t)) y) (z_copied : z₁ ≡ placed 0 (zs (rows t)) z)
    (back : let n = length t in rows t' ≡ placed 0 (corners_of (take n (u₂ ++ u₃)) (take n (v₂ ++ v₃)) (take n (x₂ ++ x₃)) (take n (y₂ ++ y₃)) (take n (z₂ ++ z₃))) (rows t)) where
  n_is : length t ≡ length (rows t)
  n_is = sym (length-rows t)

  made : (R : Corners Vec3) → length R ≡ length (rows t) → u₂ ≡ us R → v₂ ≡ vs R → x₂ ≡ xs R → y₂ ≡ ys R → z₂ ≡ zs R → rows t' ≡ R
  made R l eu ev ex ey ez =
      together (rows t) R (rows t') _ _ _ _ _ l (column_read u_of (rows t) (length t) n_is R u₂ u₃ l eu) (column_read v_of (rows t) (length t) n_is R v₂ v₃ l ev)
      (column_read x_of (rows t) (length t) n_is R x₂ x₃ l ex) (column_read y_of (rows t) (length t) n_is R y₂ y₃ l ey) (column_read z_of (rows t) (length t) n_is R z₂ z₃ l ez) back

  u_is : take (length t) u₁ ≡ us (rows t)
  u_is = column_is u_of (rows t) (length t) n_is u u₁ (omega arith) u_copied

  pub first_taken : (k : ℕ) → u₂ ≡ begin_ring_at (moved_by (Up period)) k (take (length t) u₁) → v₂ ≡ begin_ring_at (moved_by Stay) k (take (length t) v₁)
      → x₂ ≡ begin_ring_at (moved_by Stay) k (take (length t) x₁) → y₂ ≡ begin_ring_at (moved_by Stay) k (take (length t) y₁)
      → z₂ ≡ begin_ring_at (moved_by Stay) k (take (length t) z₁) → rows t' ≡ first_for period k (rows t)
  first_taken k eu ev ex ey ez =
      made (first_for period k (rows t)) (length-first_for period k (rows t))
      (eu ∙ ap (begin_ring_at (moved_by (Up period)) k) u_is ∙ first_by_u period k (rows t))
      (begun_column v_of (rows t) (length t) n_is v v₁ (omega arith) v_copied v₂ (λ f c. refl) period k ev)
      (begun_column x_of (rows t) (length t) n_is x x₁ (omega arith) x_copied x₂ (λ f c. refl) period k ex)
      (begun_column y_of (rows t) (length t) n_is y y₁ (omega arith) y_copied y₂ (λ f c. refl) period k ey)
      (begun_column z_of (rows t) (length t) n_is z z₁ (omega arith) z_copied z₂ (λ f c. refl) period k ez)

  pub later-taken : (cut : Float) (near : ℕ) → near ≡ nearest period cut (map (λ u. u) (take (length t) u₁))
      → u₂ ≡ later_by (λ u. u) moved_by period cut (take (length t) u₁) → v₂ ≡ align_at (moved_by Stay) (moved_by Stay) near (take (length t) v₁)
      → x₂ ≡ align_at (moved_by Stay) (moved_by Stay) near (take (length t) x₁) → y₂ ≡ align_at (moved_by Stay) (moved_by Stay) near (take (length t) y₁)
      → z₂ ≡ align_at (moved_by Stay) (moved_by Stay) near (take (length t) z₁) → rows t' ≡ later_for period cut (rows t)
  later-taken cut near e eu ev ex ey ez =
      let m : near ≡ nearest period cut (us (rows t)) = e ∙ ap (nearest period cut) (us_of_reals (take (length t) u₁) ∙ u_is) in
      made (later_for period cut (rows t)) (length-later_for period cut (rows t))
      (eu ∙ ap (later_by (λ u. u) moved_by period cut) u_is ∙ sym (us_later period cut (rows t)))
      (aligned_column v_of (rows t) (length t) n_is v v₁ (omega arith) v_copied v₂ (λ f c. refl) period cut near m ev)
      (aligned_column x_of (rows t) (length t) n_is x x₁ (omega arith) x_copied x₂ (λ f c. refl) period cut near m ex)
      (aligned_column y_of (rows t) (length t) n_is y y₁ (omega arith) y_copied y₂ (λ f c. refl) period cut near m ey)
      (aligned_column z_of (rows t) (length t) n_is z z₁ (omega arith) z_copied z₂ (λ f c. refl) period cut near m ez)
