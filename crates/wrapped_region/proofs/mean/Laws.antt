-- The sum and the mean of a table's v.
use Rattle.std.proofs.Common.{◌≡◌, List, [], ◌∷◌, length, map, refl, sym, ap, ◌∙◌}
use mathlib.Core.List.{foldl}
use lib.Ieee.{neg}
use Rattle.std.specs.List.{fold}
use Rattle.std.specs.Prelude.{Float}
use Rattle.numbers.specs.Constants.{plus_zero}
use Rattle.numbers.specs.Rounded.{◌⊕◌, ◌⊘◌, count}
use Rattle.numbers.specs.declared.math.Vec3.{Vec3}
use Rattle.loops.specs.Mean.{sum_of, mean_of}
use Rattle.loops.proofs.mean.Laws.{mean_of_none, mean_of_some}
use Rattle.tables.specs.Corners.{Corner, Corners, vs}
use Rattle.tables.proofs.AnyRows.{vs_counted}

module _ {A : Type 0} (row_of : A → Corner Vec3) (rows_of : List A → Corners Vec3) (are : (t : List A) → rows_of t ≡ map row_of t) where
  adding : (t : List A) (s : Float) → fold (λ s x. s ⊕ (row_of x).v) s t ≡ foldl ◌⊕◌ s (vs (map row_of t))
  adding [] s = refl
  adding (x ∷ t) s = adding t (s ⊕ (row_of x).v)

  -- the code's sum
  pub sum_is : (t : List A) → fold (λ s x. s ⊕ (row_of x).v) (neg plus_zero) t ≡ sum_of (vs (rows_of t))
  unfolding sum_of
  sum_is t = adding t (neg plus_zero) ∙ ap (λ (r : Corners Vec3). foldl ◌⊕◌ (neg plus_zero) (vs r)) (sym (are t))

  module _ (t : List A) where
    pub mean_none : length t ≡ 0 → plus_zero ≡ mean_of (vs (rows_of t))
    mean_none z = mean_of_none (vs (rows_of t)) (vs_counted row_of rows_of are t ∙ z)

    pub mean_some : (s m : Float) → ((length t ≡ 0) → ⊥) → s ≡ sum_of (vs (rows_of t)) → m ≡ count (length t) → s ⊘ m ≡ mean_of (vs (rows_of t))
    mean_some s m z s_is m_is =
        let many = vs_counted row_of rows_of are t in
        (λ i. s_is i ⊘ (m_is ∙ ap count (sym many)) i) ∙ mean_of_some (vs (rows_of t)) (λ none. z (sym many ∙ none))
