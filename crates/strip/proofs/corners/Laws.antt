-- The corner at each place of a strip.
use Prim.Native.Nat.{ℕ, suc, ◌+◌, ◌-◌, ◌^◌, ◌≤◌, ◌<◌, min}
use mathlib.Core.Path.{◌≡◌, refl, sym, ap, ◌∙◌}
use mathlib.Core.List.{List, [], ◌∷◌, ◌++◌, append-nil, map, reverse}
use native.Mathlib.Omega.{arith}
use borrow.Author.Tests.{eq-eqb, ne_eqb}
use lib.Ieee.{Float}
use lib.ListN.{length, get_or, length-append, length-reverse, length-map, get_or-append, get_or-eq_default}
use lib.Seq.{get_or-append-add}
use Rattle.numbers.specs.Rounded.{◌⊕◌}
use Rattle.numbers.specs.declared.math.Vec3.{Vec3}
use Rattle.lists.proofs.Elements.{get_d_map, get_d_reverse}
use Rattle.tables.specs.Corners.{Corner, Corners}
use Rattle.tables.specs.Rows.{none}
use Rattle.strip.specs.Corners.{at_u, far_side, strip_with}
use Rattle.strip.specs.Count.{capped, count_of, strip_count}

-- ---- lists put together, and read from the end

module _ {A : Type 0} (d : A) where
  in_first : (p q : List A) (i n : ℕ) (r : A) → n ≡ length p → i < n → r ≡ get_or p i d → r ≡ get_or (p ++ q) i d
  in_first p q i n r e h is = is ∙ sym (get_or-append p q d i (omega arith))

  in_second : (p q : List A) (i n k : ℕ) (r : A) → n ≡ length p → i ≡ n + k → r ≡ get_or q k d → r ≡ get_or (p ++ q) i d
  in_second p q i n k r e h is =
      let place : i ≡ length p + k = omega arith in
      is ∙ sym (ap (λ (j : ℕ). get_or (p ++ q) j d) place ∙ get_or-append-add p q k d)

  module _ (xs : List A) (i n : ℕ) (r : A) (e : n ≡ length xs) where
    pub from_end : i < n → r ≡ get_or xs (n - 1 - i) d → r ≡ get_or (reverse xs) i d
    from_end h is = is ∙ sym (get_d_reverse xs i (n - 1 - i) d (omega arith))

    pub past_end : n ≤ i → r ≡ get_or xs n d → r ≡ get_or (reverse xs) i d
    past_end h is =
        let m = length-reverse xs in
        is ∙ get_or-eq_default xs d (omega arith) ∙ sym (get_or-eq_default (reverse xs) d {n = i} (omega arith))

    module _ (ys : List A) where
      pub back-first : i < n → r ≡ get_or (reverse xs) i d → r ≡ get_or (reverse xs ++ reverse ys) i d
      back-first h is = in_first (reverse xs) (reverse ys) i n r (e ∙ sym (length-reverse xs)) h is

      pub back-second : n ≤ i → r ≡ get_or (reverse ys) (i - n) d → r ≡ get_or (reverse xs ++ reverse ys) i d
      back-second h is = in_second (reverse xs) (reverse ys) i n (i - n) r (e ∙ sym (length-reverse xs)) (omega arith) is

-- ---- behind the corner where the first wall begins

module _ (end : Float) (upper wall : Corners Vec3) (i k : ℕ) (r : Corner Vec3) (count : k ≡ length wall) where
  long : k ≡ length (map (at_u end) wall)
  long = count ∙ sym (length-map wall (at_u end))

  abbrev rest : Corners Vec3
  rest = at_u end (get_or upper 0 none) ∷ (reverse upper ++ reverse wall)

  pub far-wall : (c : Corner Vec3) → i < k → c ≡ get_or wall i none → r ≡ at_u end c → r ≡ get_or (far_side end upper wall) i none
  far-wall c h is moved =
      in_first none (map (at_u end) wall) rest i k r long h
      (moved ∙ ap (at_u end) is ∙ sym (get_d_map (at_u end) wall i none none (omega arith)))

  pub far-end : (c : Corner Vec3) → i ≡ k → c ≡ get_or upper 0 none → r ≡ at_u end c → r ≡ get_or (far_side end upper wall) i none
  far-end c h is moved = in_second none (map (at_u end) wall) rest i k 0 r long (omega arith) (moved ∙ ap (at_u end) is)

  pub far-back : k ≤ i → (i ≡ k → ⊥) → r ≡ get_or (reverse upper ++ reverse wall) (i - k - 1) none → r ≡ get_or (far_side end upper wall) i none
  far-back h other is =
      let more : i ≡ k + suc (i - k - 1) = omega (arith, past) in
      in_second none (map (at_u end) wall) rest i k (suc (i - k - 1)) r long more is
    where
      past : k < i
      past = omega arith

-- ---- the whole strip

module _ (period : Float) (lower upper wall : Corners Vec3) where
  abbrev end_of : Float
  end_of = (get_or lower 0 none).u ⊕ period

  abbrev behind : Corners Vec3
  behind = at_u end_of (get_or lower 0 none) ∷ far_side end_of upper wall

strip_some : (period : Float) (lower upper wall : Corners Vec3) → 0 < length lower → 0 < length upper
    → strip_with period lower upper wall ≡ lower ++ behind period lower upper wall
unfolding strip_with
strip_some period [] upper wall a b = absurd (omega arith)
strip_some period (l ∷ lower) [] wall a b = absurd (omega arith)
strip_some period (l ∷ lower) (u ∷ upper) wall a b = refl

strip-none : (period : Float) (lower upper wall : Corners Vec3) → min (length lower) (length upper) ≡ 0
    → strip_with period lower upper wall ≡ lower ++ reverse upper
unfolding strip_with
strip-none period [] upper wall e = refl
strip-none period (l ∷ lower) [] wall e = sym (append-nil (l ∷ lower))
strip-none period (l ∷ lower) (u ∷ upper) wall e = absurd (omega arith)

strip-front : (period : Float) (lower upper wall : Corners Vec3) → (rest : Corners Vec3) × (strip_with period lower upper wall ≡ lower ++ rest)
unfolding strip_with
strip-front period [] upper wall = (reverse upper, refl)
strip-front period (l ∷ lower) [] wall = ([], sym (append-nil (l ∷ lower)))
strip-front period (l ∷ lower) (u ∷ upper) wall = (behind period (l ∷ lower) (u ∷ upper) wall, refl)

module _ (period : Float) (lower upper wall : Corners Vec3) (i n : ℕ) (r : Corner Vec3) (count : n ≡ length lower) where
  pub of_lower : i < n → r ≡ get_or lower i none → r ≡ get_or (strip_with period lower upper wall) i none
  of_lower h is =
      let front = strip-front period lower upper wall in
      in_first none lower front.0 i n r count h is ∙ ap (λ (l : Corners Vec3). get_or l i none) (sym front.1)

  module _ (m some : ℕ) (count_upper : m ≡ length upper) (both : some ≡ min n m) (h : n ≤ i) where
    pub of_none : some ≡ 0 → r ≡ get_or (reverse upper) (i - n) none → r ≡ get_or (strip_with period lower upper wall) i none
    of_none e is =
        in_second none lower (reverse upper) i n (i - n) r count (omega arith) is
        ∙ ap (λ (l : Corners Vec3). get_or l i none) (sym (strip-none period lower upper wall (omega arith)))

    module _ (there : some ≡ 0 → ⊥) where
      some_lower : 0 < length lower
      some_lower = omega arith

      some_upper : 0 < length upper
      some_upper = omega arith

      past : (k : ℕ) → i ≡ n + k → r ≡ get_or (behind period lower upper wall) k none → r ≡ get_or (strip_with period lower upper wall) i none
      past k e is =
          in_second none lower (behind period lower upper wall) i n k r count e is
          ∙ ap (λ (l : Corners Vec3). get_or l i none) (sym (strip_some period lower upper wall some_lower some_upper))

      module _ (u : Float) (u_is : u ≡ (get_or lower 0 none).u) where
        pub of_first : (c : Corner Vec3) → i - n ≡ 0 → c ≡ get_or lower 0 none → r ≡ at_u (u ⊕ period) c → r ≡ get_or (strip_with period lower upper wall) i none
        of_first c e is moved = past 0 (omega arith) (moved ∙ (λ j. at_u (u_is j ⊕ period) (is j)))

        pub of_far : (i - n ≡ 0 → ⊥) → r ≡ get_or (far_side (u ⊕ period) upper wall) (i - n - 1) none → r ≡ get_or (strip_with period lower upper wall) i none
        of_far other is =
            past (suc (i - n - 1)) (omega (arith, behind_first)) (is ∙ ap (λ (x : Float). get_or (far_side (x ⊕ period) upper wall) (i - n - 1) none) u_is)
          where
            behind_first : n < i
            behind_first = omega arith

-- ---- how many they are

-- n and m are the counts that the code has in hand, of l and u corners
module _ (l u n m some inner : ℕ) (n_is : n ≡ l) (m_is : m ≡ u) (both : some ≡ min n m) where
  pub count_none : n + m < 2 ^ 64 → some ≡ 0 → n + m ≡ capped (strip_count l u inner)
  unfolding strip_count
  count_none a e = let none-there : min l u ≡ 0 = omega arith in rw (eq-eqb (min l u) 0 none-there) (omega arith)

  pub count_some : (r : ℕ) → (some ≡ 0 → ⊥) → r ≡ capped (count_of n m inner) → r ≡ capped (strip_count l u inner)
  unfolding strip_count
  count_some r there e =
      let some-there : min l u ≡ 0 → ⊥ = λ h. there (omega arith) in
      rw (ne_eqb (min l u) 0 some-there) (omega arith)

pub length-strip : (period : Float) (lower upper wall : Corners Vec3) → length (strip_with period lower upper wall) ≡ strip_count (length lower) (length upper) (length wall)
unfolding strip_with strip_count
length-strip period [] upper wall = length-reverse upper ∙ sym (rw (eq-eqb (min 0 (length upper)) 0 (omega arith)) (omega arith))
length-strip period (l ∷ lower) [] wall = sym (rw (eq-eqb (min (length (l ∷ lower)) 0) 0 (omega arith)) (omega arith))
length-strip period (l ∷ lower) (u ∷ upper) wall =
    let end = l.u ⊕ period in
    let some-there : min (length (l ∷ lower)) (length (u ∷ upper)) ≡ 0 → ⊥ = λ h. omega arith in
    let a = length-append (l ∷ lower) (at_u end l ∷ far_side end (u ∷ upper) wall) in
    let b = length-append (map (at_u end) wall) (at_u end u ∷ (reverse (u ∷ upper) ++ reverse wall)) in
    let c = length-map wall (at_u end) in
    let d = length-append (reverse (u ∷ upper)) (reverse wall) in
    let e = length-reverse (u ∷ upper) in
    let f = length-reverse wall in
    rw (ne_eqb (min (length (l ∷ lower)) (length (u ∷ upper))) 0 some-there) (omega arith)
