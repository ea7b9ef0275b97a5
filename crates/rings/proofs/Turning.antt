-- A ring turned in place: turned left, a step for what comes round, and the closing point.
use Prim.Native.Nat.{ℕ, ◌+◌, ◌-◌, ◌≤◌, ◌<◌, min}
use mathlib.Core.Path.{◌≡◌, refl, sym, ap, ◌∙◌}
use mathlib.Core.List.{List, [], ◌∷◌, ◌++◌, map, append-nil, drop_last, map-id}
use mathlib.Core.Bool.{Bool, true, false, cond, ◌||◌}
use native.Mathlib.Omega.{arith}
use borrow.Author.Tests.{lt-ltb, le-ltb, ne_eqb, eqb-false}
use lib.Dec.{ltb, eqb}
use lib.ListN.{length, get_or, set, take, drop, length-drop, length-map, length-append, drop_of_length-le}
use lib.Seq.{set_at, take_at, drop_at, take_all, length-take-le}
use Rattle.lists.proofs.Pieces.{take-most, drop-most}
use Rattle.loops.specs.Rings.{begun, closed, turned, unchanged}
use Rattle.rings.specs.Turns.{turned_unless, recut_at, turned_onto, align_at}
use Rattle.lists.proofs.Elements.{length-drop_last, drop_last-take}
use Rattle.rings.proofs.Lengths.{length-begun}

-- ---- begun

-- the whole turned left, and what came round moved
module _ {A : Type 0} (f : A → A) (k : ℕ) (a : List A) where
  pub begun_left : (round from n : ℕ) (b p : List A) → round ≡ min k (length a) → b ≡ drop round a ++ take round a → from ≡ length b - round → n ≡ length b - from
      → p ≡ map f (take n (drop from b)) → take from b ++ (p ++ drop n (drop from b)) ≡ begun f k a
  unfolding begun
  begun_left round from n b p r e h m p_is =
      (λ i. front i ++ ((p_is ∙ ap (map f) (ap (take n) behind ∙ take_all n y all)) i ++ (ap (drop n) behind ∙ drop_of_length-le y {i = n} all) i))
      ∙ (λ i. x_is i ++ append-nil (map f (y_is i)) i)
    where
      x : List A
      x = drop round a

      y : List A
      y = take round a

      lengths : length b ≡ length x + length y
      lengths = ap length e ∙ length-append x y

      long : length y ≡ round
      long = length-take-le round a (omega arith)

      count : length x ≡ from
      count = let l = lengths in let d = length-drop round a in let g = long in omega arith

      all : length y ≤ n
      all = let l = lengths in let c = count in omega arith

      front : take from b ≡ x
      front = ap (take from) e ∙ take_at x y from count

      behind : drop from b ≡ y
      behind = ap (drop from) e ∙ drop_at x y from count

      x_is : x ≡ drop k a
      x_is = ap (λ (j : ℕ). drop j a) r ∙ drop-most k a

      y_is : y ≡ take k a
      y_is = ap (λ (j : ℕ). take j a) r ∙ take-most k a

-- ---- closed

-- a list by its last element
by_last : {A : Type 0} (a : List A) → 0 < length a → (y : A) × (a ≡ drop_last a ++ (y ∷ []))
by_last [] h = absurd (omega arith)
by_last (x ∷ []) h = (x, refl)
by_last {A} (x ∷ y ∷ a) h = ((by_last (y ∷ a) (omega arith)).0, ap (λ (l : List A). x ∷ l) (by_last (y ∷ a) (omega arith)).1)

module _ {A : Type 0} (z : A) (f : A → A) where
  close : (e : List A) (y : A) (n : ℕ) → length e ≡ n → 0 < n → set (e ++ (y ∷ [])) n (f (get_or (e ++ (y ∷ [])) 0 z)) ≡ closed f e
  unfolding closed
  close [] y n l h = absurd (omega arith)
  close (x ∷ e) y n l h = set_at (x ∷ e) y [] (f x) n l

-- the open points changed where they stand, and the closing point set
module _ {A : Type 0} (f g : A → A) (k : ℕ) (a : List A) (some : 2 ≤ length a) where
  abbrev n : ℕ
  n = length a - 1

  abbrev points : List A
  points = drop_last a

  abbrev last : List A
  last = (by_last a (omega arith)).0 ∷ []

  length-points : length points ≡ n
  length-points = length-drop_last a

  behind : drop n a ≡ last
  behind = ap (drop n) (by_last a (omega arith)).1 ∙ drop_at points last n length-points

  pub turned_in : (b : List A) (x y : A) → b ≡ begun f k (take n a) → y ≡ get_or (b ++ drop n a) 0 y → x ≡ f y → set (b ++ drop n a) n x ≡ turned f k a
  unfolding turned
  turned_in b x y b_is y_is x_is =
      ap (set (b ++ drop n a) n) (x_is ∙ ap f y_is) ∙ ap (λ (l : List A). set l n (f (get_or l 0 y))) whole
      ∙ close y f (begun f k points) (by_last a (omega arith)).0 n (length-begun f k points ∙ length-points) (omega arith)
    where
      whole : b ++ drop n a ≡ begun f k points ++ last
      whole = λ i. (b_is ∙ ap (begun f k) (sym (drop_last-take a))) i ++ behind i

  pub turned_onto_in : (b d : List A) (x y : A) → b ≡ begun f k (take n a) → d ≡ map g (take n (b ++ drop n a)) → y ≡ get_or (d ++ drop n (b ++ drop n a)) 0 y → x ≡ f y
      → set (d ++ drop n (b ++ drop n a)) n x ≡ turned_onto f g k a
  unfolding turned_onto
  turned_onto_in b d x y b_is d_is y_is x_is =
      ap (set (d ++ drop n (b ++ drop n a)) n) (x_is ∙ ap f y_is) ∙ ap (λ (l : List A). set l n (f (get_or l 0 y))) onto
      ∙ close y f (map g (begun f k points)) (by_last a (omega arith)).0 n (length-map (begun f k points) g ∙ long) (omega arith)
    where
      long : length (begun f k points) ≡ n
      long = length-begun f k points ∙ length-points

      whole : b ++ drop n a ≡ begun f k points ++ last
      whole = λ i. (b_is ∙ ap (begun f k) (sym (drop_last-take a))) i ++ behind i

      onto : d ++ drop n (b ++ drop n a) ≡ map g (begun f k points) ++ last
      onto = λ i. (d_is ∙ ap (λ (l : List A). map g (take n l)) whole ∙ ap (map g) (take_at (begun f k points) last n long)) i
          ++ (ap (drop n) whole ∙ drop_at (begun f k points) last n long) i

-- ---- the guards of `begin_ring_at`, `align_cuts` and the moves

module _ {A : Type 0} (f : A → A) (k : ℕ) (a : List A) where
  -- put on no branch
  pub turned_on : turned_onto f unchanged k a ≡ turned f k a
  unfolding turned_onto turned
  turned_on = ap (closed f) (map-id (begun f k (drop_last a)))

  module _ (few : ℕ) where
    pub stays_at : k ≡ 0 → a ≡ turned_unless few f k a
    unfolding turned_unless
    stays_at e = sym (rw e)

    pub stays_few : length a < few → a ≡ turned_unless few f k a
    unfolding turned_unless
    stays_few h = sym (rw (lt-ltb (length a) few h) (either (eqb k 0)))
      where
        either : (t : Bool) → cond (t || true) a (turned f k a) ≡ a
        either true = refl
        either false = refl

    -- a turn that neither guard stops
    pub turned_past_guards : (a' : List A) → (k ≡ 0 → ⊥) → few ≤ length a → a' ≡ turned f k a → a' ≡ turned_unless few f k a
    unfolding turned_unless
    turned_past_guards a' n h e = e ∙ sym (rw (ne_eqb k 0 n, le-ltb (length a) few h))

    -- and one put on no branch
    pub turned_else : (a' : List A) → (k ≡ 0 → ⊥) → few ≤ length a → a' ≡ turned_onto f unchanged k a → a' ≡ turned_unless few f k a
    turned_else a' n h e = turned_past_guards a' n h (e ∙ turned_on)

  -- past its first open point a ring has two points and more
  pub recut_open : k ≤ length a - 2 → cond (eqb k 0) a (turned f k a) ≡ recut_at f k a
  unfolding turned_unless
  recut_open h = either (eqb k 0) refl
    where
      either : (t : Bool) → eqb k 0 ≡ t → cond t a (turned f k a) ≡ cond (t || ltb (length a) 2) a (turned f k a)
      either true e = refl
      either false e =
          let n = eqb-false k 0 e in
          let long : 2 ≤ length a = omega arith in
          sym (rw (le-ltb (length a) 2 long))

  module _ (g : A → A) where
    pub align_few : length a < 3 → a ≡ align_at f g k a
    unfolding align_at
    align_few h = sym (rw (lt-ltb (length a) 3 h))

    pub align_turned : (a' : List A) → 3 ≤ length a → a' ≡ turned_onto f g k a → a' ≡ align_at f g k a
    unfolding align_at
    align_turned a' h e = e ∙ sym (rw (le-ltb (length a) 3 h))
