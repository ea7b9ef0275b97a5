-- The rows of a table, whatever a row is made of: how many they are, those of a part and of its loops, and what is read there.
use Rattle.std.proofs.Common.{◌≡◌, ℕ, ◌<◌, List, ◌∷◌, length, get_or, take, drop, map, sym, ap, ap₂, ◌∙◌}
use Rattle.std.proofs.lemmas.List.{length-map, take-map, drop-map}
use Rattle.std.proofs.Math.ListN.{get_or-map}
use Rattle.std.specs.Prelude.{min}
use Rattle.std.specs.Float.{nan}
use Rattle.numbers.specs.declared.math.Vec3.{Vec3}
use Rattle.lists.specs.Pieces.{pieces}
use Rattle.lists.proofs.Pieces.{take-most, drop-most}
use Rattle.lists.proofs.Elements.{get_d_map}
use Rattle.tables.specs.Corners.{Corner, Corners, us, vs}
use Rattle.tables.specs.Rows.{none}

module _ {A : Type 0} (row_of : A → Corner Vec3) (rows_of : List A → Corners Vec3) (are : (t : List A) → rows_of t ≡ map row_of t) where
  pub rows_counted : (t : List A) → length (rows_of t) ≡ length t
  rows_counted t = ap length (are t) ∙ length-map t row_of

  pub us_counted : (t : List A) → length (us (rows_of t)) ≡ length t
  us_counted t = length-map (rows_of t) (λ (c : Corner Vec3). c.u) ∙ rows_counted t

  pub vs_counted : (t : List A) → length (vs (rows_of t)) ≡ length t
  vs_counted t = length-map (rows_of t) (λ (c : Corner Vec3). c.v) ∙ rows_counted t

  -- ---- parts

  pub rows_taken : (k : ℕ) (t : List A) → rows_of (take k t) ≡ take k (rows_of t)
  rows_taken k t = are (take k t) ∙ sym (take-map row_of k t) ∙ ap (take k) (sym (are t))

  pub rows_dropped : (k : ℕ) (t : List A) → rows_of (drop k t) ≡ drop k (rows_of t)
  rows_dropped k t = are (drop k t) ∙ sym (drop-map row_of k t) ∙ ap (drop k) (sym (are t))

  -- the first loop, and those behind it
  pub first_loop : (n : ℕ) (ns : List ℕ) (t : List A) → let k = min n (length t) in
      pieces (n ∷ ns) (rows_of t) ≡ rows_of (take k t) ∷ pieces ns (rows_of (drop k t))
  unfolding pieces
  first_loop n ns t =
      let one = sym (rows_taken n t) ∙ ap rows_of (sym (take-most n t)) in
      let others = sym (rows_dropped n t) ∙ ap rows_of (sym (drop-most n t)) in
      ap₂ ◌∷◌ one (ap (pieces ns) others)

  -- ---- row i, which is read as c

  module _ (t : List A) (i : ℕ) (x : A) (c : Corner Vec3) (h : i < length t) (e : x ≡ get_or t i x) (d : c ≡ row_of x) where
    pub row_there : get_or (rows_of t) i none ≡ c
    row_there = ap (λ (r : Corners Vec3). get_or r i none) (are t) ∙ get_d_map row_of t i none x h ∙ ap row_of (sym e) ∙ sym d

    pub u_there : get_or (us (rows_of t)) i nan ≡ c.u
    u_there = get_or-map (λ (c : Corner Vec3). c.u) (rows_of t) i none ∙ ap (λ (c : Corner Vec3). c.u) row_there

    pub v_there : get_or (vs (rows_of t)) i nan ≡ c.v
    v_there = get_or-map (λ (c : Corner Vec3). c.v) (rows_of t) i none ∙ ap (λ (c : Corner Vec3). c.v) row_there
