-- The u and the v of a table's rows, read where the rows stand.
use Rattle.std.proofs.Common.{◌≡◌, ℕ, ◌+◌, ◌-◌, ◌%◌, ◌≤◌, ◌<◌, min, List, length, get_or, map, arith, pos}
use Rattle.std.specs.Prelude.{Float}
use Rattle.numbers.specs.Rounded.{◌⊕◌, ◌⊖◌, ◌⊗◌, ◌⊘◌}
use Rattle.numbers.specs.declared.math.Vec3.{Vec3}
use Rattle.tables.specs.Corners.{Corner, Corners, us, vs}
use Rattle.tables.proofs.AnyRows.{us_counted, vs_counted, u_there, v_there}
use Rattle.loops.specs.Area.{cross_at, cross_sum}
use Rattle.loops.specs.Wrap.{turns_counted, wrap_every}
use Rattle.loops.proofs.rows.Area.{Summing, summing, summing_turn}
use Rattle.loops.proofs.wrap.Laws.{net_of_few, net_of_more}

module _ {A : Type 0} (rows_of : List A → Corners Vec3) (t : List A) where
  abbrev pub Adding : Float → ℕ → Type 0
  Adding s i = Summing (us (rows_of t)) (vs (rows_of t)) (length t) s i

module _ {A : Type 0} (row_of : A → Corner Vec3) (rows_of : List A → Corners Vec3) (are : (t : List A) → rows_of t ≡ map row_of t) (t : List A) where
  pub count_both : length t ≡ min (length (us (rows_of t))) (length (vs (rows_of t)))
  count_both = omega (arith, us_counted row_of rows_of are t, vs_counted row_of rows_of are t)

  -- ---- the area

  pub adding : Adding rows_of t (cross_sum (us (rows_of t)) (vs (rows_of t)) (length t) 0) 0
  adding = summing (us (rows_of t)) (vs (rows_of t)) (length t) count_both

  -- of rows i and j, which are read as c and d
  pub adding_turn : (i j : ℕ) (x y : A) (c d : Corner Vec3) (s : Float) → Adding rows_of t s i → i < length t → j ≡ (i + 1) % length t
      → x ≡ get_or t i x → c ≡ row_of x → y ≡ get_or t j y → d ≡ row_of y
      → Adding rows_of t (s ⊕ (c.u ⊗ d.v ⊖ d.u ⊗ c.v)) (i + 1)
  unfolding cross_at
  adding_turn i j x y c d s k h e x-is c-is y-is d-is =
      let m : j < length t = omega arith in
      let u = u_there row_of rows_of are t in
      let v = v_there row_of rows_of are t in
      let added = summing_turn (us (rows_of t)) (vs (rows_of t)) (length t) i j s k h e in
      rw (← u i x c h x-is c-is, ← v j y d m y-is d-is, ← u j y d m y-is d-is, ← v i x c h x-is c-is) added

  -- ---- the wrap

  module _ (period : Float) where
    pub net-few : length t < 2 → pos 0 ≡ wrap_every period (us (rows_of t))
    net-few h = net_of_few (us (rows_of t)) period (omega (arith, us_counted row_of rows_of are t))

    -- of the last row and the first, which are read as c and d
    pub net_more : (x y : A) (c d : Corner Vec3) → 2 ≤ length t → x ≡ get_or t (length t - 1) x → c ≡ row_of x → y ≡ get_or t 0 y → d ≡ row_of y
        → turns_counted ((c.u ⊖ d.u) ⊘ period) ≡ wrap_every period (us (rows_of t))
    net_more x y c d h x-is c-is y-is d-is =
        let n = us_counted row_of rows_of are t in
        let m : length t - 1 ≡ length (us (rows_of t)) - 1 = omega arith in
        let u = u_there row_of rows_of are t in
        let net = net_of_more (us (rows_of t)) period (omega arith) in
        rw (← u (length t - 1) x c (omega arith) x-is c-is, ← u 0 y d (omega arith) y-is d-is, m) net
