-- Which path a face takes, and what its result then is.
use Prim.Native.Nat.{ℕ, ◌<◌}
use mathlib.Core.Path.{◌≡◌}
use mathlib.Core.List.{List, [], ◌∷◌}
use native.Mathlib.Omega.{arith}
use borrow.Author.Tests.{eq-eqb, ne_eqb}
use Rattle.records.specs.Face.{loops}
use Rattle.results.specs.declared.Path.TheVariants.{Closed, Whole}
use Rattle.call.specs.Face.{loops_in, wrapping, u_period_in, v_period_in}
use Rattle.call.specs.Paths.{whole_loop, closed_loops, wrapped_loops, result_loops}
use Rattle.filling.specs.Filled.{path_taken}

module _ (s : List ℕ) where
  module _ (bare : loops s ≡ 0) where
    pub takes_whole : result_loops s ≡ whole_loop s ∷ []
    unfolding result_loops
    takes_whole = rw (eq-eqb (loops s) 0 bare)

    pub path_whole : Whole ≡ path_taken s
    unfolding path_taken
    path_whole = rw (eq-eqb (loops s) 0 bare)

  module _ (some : 0 < loops s) where
    pub takes_closed : wrapping s ≡ 0 → result_loops s ≡ closed_loops (u_period_in s) (v_period_in s) (loops_in s)
    unfolding result_loops
    takes_closed e = rw (ne_eqb (loops s) 0 (λ z. omega arith), eq-eqb (wrapping s) 0 e)

    pub path-closed : wrapping s ≡ 0 → Closed ≡ path_taken s
    unfolding path_taken
    path-closed e = rw (ne_eqb (loops s) 0 (λ z. omega arith), eq-eqb (wrapping s) 0 e)

    pub takes_wrapped : 0 < wrapping s → result_loops s ≡ wrapped_loops s
    unfolding result_loops
    takes_wrapped e = rw (ne_eqb (loops s) 0 (λ z. omega arith), ne_eqb (wrapping s) 0 (λ z. omega arith))
