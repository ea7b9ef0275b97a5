-- The loops that stand one behind the other in a list, found again by how many elements stand before them.
use Prim.Native.Nat.{ℕ, zero, suc, ◌+◌, ◌≤◌}
use mathlib.Core.Path.{◌≡◌, refl, sym, ap, ◌∙◌}
use mathlib.Core.List.{List, [], ◌∷◌, ◌++◌, map, flatten, append_assoc, append-nil}
use native.Mathlib.Numerals.{add-one}
use native.Mathlib.Omega.{arith}
use lib.ListN.{length, get_or, take, drop, length-append, take-append-drop}
use lib.Seq.{take_all, take_at, drop_at}
use Rattle.std.specs.List.{sum_by}
use Rattle.std.proofs.lemmas.List.Recursion.{is_sum_by}
use Rattle.numbers.specs.declared.math.Vec3.{Vec3}
use Rattle.lists.specs.Pieces.{pieces}
use Rattle.lists.specs.Placed.{placed}
use Rattle.lists.proofs.Pieces.{length-pieces, pieces_fit}
use Rattle.lists.specs.Parts.{part_of}
use Rattle.tables.specs.Corners.{Corners}
use Rattle.tables.specs.Loops.{loops_in}
use Rattle.tables.specs.Rows.{rows}
use Rattle.tables.specs.declared.loops.Loops.{Loops}
use Rattle.tables.specs.declared.corners.Corner.{Corner as Held}
use Rattle.tables.proofs.PartRows.{rows-placed}
use Rattle.tables.proofs.Rows.{length-rows, rows_take, rows_drop, rows_append}
use Rattle.closed_face.specs.First.{part_first}

module _ {A : Type 0} where
  pub flatten_append : (xs ys : List (List A)) → flatten (xs ++ ys) ≡ flatten xs ++ flatten ys
  unfolding flatten
  flatten_append [] ys = refl
  flatten_append (x ∷ xs) ys = ap (λ (l : List A). x ++ l) (flatten_append xs ys) ∙ sym (append_assoc x (flatten xs) (flatten ys))

  -- loop k between those before it and those behind it
  flat_one : (k : ℕ) (ls : List (List A)) → flatten (take 1 (drop k ls)) ≡ get_or ls k []
  unfolding flatten
  flat_one zero [] = refl
  flat_one (suc k) [] = refl
  flat_one zero (l ∷ ls) = append-nil l
  flat_one (suc k) (l ∷ ls) = flat_one k ls

  flat_split : (k : ℕ) (ls : List (List A)) → flatten ls ≡ flatten (take k ls) ++ (get_or ls k [] ++ flatten (drop (suc k) ls))
  unfolding flatten
  flat_split zero [] = refl
  flat_split (suc k) [] = refl
  flat_split zero (l ∷ ls) = refl
  flat_split (suc k) (l ∷ ls) = ap (λ (r : List A). l ++ r) (flat_split k ls) ∙ sym (append_assoc l (flatten (take k ls)) (get_or ls k [] ++ flatten (drop (suc k) ls)))

  -- a list is its pieces and what is left
  behind : List ℕ → List A → List A
  behind [] xs = xs
  behind (n ∷ ns) xs = behind ns (drop n xs)

  whole : (ns : List ℕ) (xs : List A) → xs ≡ flatten (pieces ns xs) ++ behind ns xs
  unfolding flatten pieces behind
  whole [] xs = refl
  whole (n ∷ ns) xs =
      sym (take-append-drop n xs) ∙ ap (λ (l : List A). take n xs ++ l) (whole ns (drop n xs)) ∙ sym (append_assoc (take n xs) (flatten (pieces ns (drop n xs))) (behind ns (drop n xs)))

  pub front-pieces : (ns : List ℕ) (xs : List A) (end : ℕ) → end ≡ length (flatten (pieces ns xs)) → take end xs ≡ flatten (pieces ns xs)
  front-pieces ns xs end e = ap (take end) (whole ns xs) ∙ take_at (flatten (pieces ns xs)) (behind ns xs) end (sym e)

  -- of the lengths that they have
  pub pieces-again : (ws : List (List A)) (r : List A) → pieces (map length ws) (flatten ws ++ r) ≡ ws
  unfolding flatten pieces
  pieces-again [] r = refl
  pieces-again (w ∷ ws) r =
      let at : w ++ flatten ws ++ r ≡ w ++ (flatten ws ++ r) = append_assoc w (flatten ws) r in
      ap (λ (l : List A). take (length w) l ∷ pieces (map length ws) (drop (length w) l)) at
      ∙ (λ i. take_at w (flatten ws ++ r) (length w) refl i ∷ pieces (map length ws) (drop_at w (flatten ws ++ r) (length w) refl i))
      ∙ ap (λ (l : List (List A)). w ∷ l) (pieces-again ws r)

  -- a part of a list that is given in three
  pub first-between : (p x r : List A) (s c : ℕ) → length p ≡ s → length x ≡ c → part_first s c (p ++ (x ++ r)) ≡ x ++ (p ++ r)
  unfolding part_first part_of
  first-between p x r s c at long =
      let both : length (p ++ x) ≡ s + c = length-append p x ∙ (λ i. at i + long i) in
      let here : take c (drop s (p ++ (x ++ r))) ≡ x = ap (take c) (drop_at p (x ++ r) s at) ∙ take_at x r c long in
      (λ i. here i ++ (take_at p (x ++ r) s at i ++ drop (s + c) (sym (append_assoc p x r) i))) ∙ ap (λ (l : List A). x ++ (p ++ l)) (drop_at (p ++ x) r (s + c) both)

  flat_first : (k : ℕ) (ls : List (List A)) → flatten (part_first k 1 ls) ≡ get_or ls k [] ++ (flatten (take k ls) ++ flatten (drop (suc k) ls))
  unfolding part_first part_of
  flat_first k ls =
      flatten_append (take 1 (drop k ls)) (take k ls ++ drop (k + 1) ls) ∙ (λ i. flat_one k ls i ++ flatten_append (take k ls) (drop (k + 1) ls) i)
      ∙ ap (λ (j : ℕ). get_or ls k [] ++ (flatten (take k ls) ++ flatten (drop j ls))) (add-one k)

  loops-first : (k : ℕ) (ls : List (List A)) (s c : ℕ) → s ≡ length (flatten (take k ls)) → c ≡ length (get_or ls k []) → part_first s c (flatten ls) ≡ flatten (part_first k 1 ls)
  loops-first k ls s c at long =
      ap (part_first s c) (flat_split k ls) ∙ first-between (flatten (take k ls)) (get_or ls k []) (flatten (drop (suc k) ls)) s c (sym at) (sym long) ∙ sym (flat_first k ls)

-- ---- where a loop begins

pub sum_of_rows : (ls : List (Corners Vec3)) → sum_by length ls ≡ length (flatten ls)
unfolding flatten
sum_of_rows ls = sym (is_sum_by (λ ls. length (flatten ls)) length refl (λ l ls. length-append l (flatten ls)) ls)

module _ (loops : Loops Held) (k : ℕ) where
  pub front_rows : length (flatten (take k (loops_in loops))) ≤ length loops.corners.now
  front_rows =
      let ls = loops_in loops in
      let whole = ap flatten (take-append-drop k ls) in
      let parts = ap length (flatten_append (take k ls) (drop k ls)) ∙ length-append (flatten (take k ls)) (flatten (drop k ls)) in
      let all = ap length whole in
      omega (arith, parts, all, pieces_fit loops.counts.now (rows loops.corners.now), length-rows loops.corners.now)

-- ---- one loop before the others, in a table

rows-first : (from m : ℕ) (s : List Held) → rows (part_first from m s) ≡ part_first from m (rows s)
unfolding part_first part_of
rows-first from m s = simp (rows_append, rows_take, rows_drop)

module _ (t : List Held) (counts : List ℕ) (k from m end : ℕ) (o : List Held) (from_is : from ≡ length (flatten (take k (pieces counts (rows t))))) (o_is : rows o ≡ get_or (pieces counts (rows t)) k []) (m_is : m ≡ length o)
    (end_is : end ≡ length (flatten (take (length counts) (pieces counts (rows t))))) where
  abbrev all : List (Corners Vec3)
  all = pieces counts (rows t)

  end_all : end ≡ length (flatten all)
  end_all = end_is ∙ ap (λ (x : List (Corners Vec3)). length (flatten x)) (take_all (length counts) all (let p = length-pieces counts (rows t) in omega arith))

  m_all : m ≡ length (get_or all k [])
  m_all = m_is ∙ sym (length-rows o) ∙ ap length o_is

  pub sum_within : from + m ≤ end
  sum_within =
      let e = end_all in
      let l : length (flatten all) ≡ length (flatten (take k all)) + length (get_or all k [] ++ flatten (drop (suc k) all)) = ap length (flat_split k all) ∙ length-append (flatten (take k all)) (get_or all k [] ++ flatten (drop (suc k) all)) in
      let r = length-append (get_or all k []) (flatten (drop (suc k) all)) in
      let f = from_is in
      let g = m_all in
      omega arith

  pub first_is : (s d d' : List Held) → s ≡ take end t → d' ≡ placed 0 (part_first from m s) d → rows d' ≡ placed 0 (flatten (part_first k 1 all)) (rows d)
  first_is s d d' s_is e =
      let flat : rows s ≡ flatten all = ap rows s_is ∙ rows_take end t ∙ front-pieces counts (rows t) end end_all in
      ap rows e ∙ rows-placed 0 (part_first from m s) d
      ∙ ap (λ (w : Corners Vec3). placed 0 w (rows d)) (rows-first from m s ∙ ap (part_first from m) flat ∙ loops-first k all from m from_is m_all)
