-- What is done to the corners is done alike to each thing that a corner has: to its u with the step of u, to all else with none.
use Prim.Native.Nat.{ℕ}
use mathlib.Core.Path.{◌≡◌, refl, sym, ap, ◌∙◌}
use mathlib.Core.Bool.{Bool, true, false, cond, ◌||◌}
use mathlib.Core.List.{List, [], ◌∷◌, map, drop_last}
use lib.Dec.{ltb, eqb}
use lib.Ieee.{Float, ne}
use lib.ListN.{length, length-map}
use Rattle.numbers.specs.Constants.{plus_zero}
use Rattle.lists.proofs.Maps.{map-drop_last}
use Rattle.loops.specs.Rings.{begun, closed, turned, unchanged}
use Rattle.loops.proofs.Projections.{map-begun, map-closed, map_turned}
use Rattle.tables.specs.Moves.{unless_zero}
use Rattle.rings.specs.Turns.{turned_unless, begin_ring_at, recut_at, turned_onto, align_at}

pub map-cond : {A B : Type 0} (g : A → B) (t : Bool) (xs ys : List A) → map g (cond t xs ys) ≡ cond t (map g xs) (map g ys)
map-cond g true xs ys = refl
map-cond g false xs ys = refl

-- ---- nothing done

pub map-unchanged : {A : Type 0} (xs : List A) → map unchanged xs ≡ xs
map-unchanged [] = refl
map-unchanged {A} (x ∷ xs) = ap (λ (l : List A). x ∷ l) (map-unchanged xs)

pub unless_unchanged : {A : Type 0} (step : Float) (xs : List A) → unless_zero step unchanged xs ≡ xs
unfolding unless_zero
unless_unchanged {A} step xs = both (ne step plus_zero)
  where
    both : (t : Bool) → cond t (map unchanged xs) xs ≡ xs
    both true = map-unchanged xs
    both false = refl

-- ---- f on the whole is f' on the part
module _ {A B : Type 0} (g : A → B) (f : A → A) (f' : B → B) (e : (a : A) → g (f a) ≡ f' (g a)) where
  pub map_each : (xs : List A) → map g (map f xs) ≡ map f' (map g xs)
  map_each [] = refl
  map_each (x ∷ xs) = λ i. e x i ∷ map_each xs i

  pub map-unless_zero : (step : Float) (xs : List A) → map g (unless_zero step f xs) ≡ unless_zero step f' (map g xs)
  unfolding unless_zero
  map-unless_zero step xs =
      map-cond g (ne step plus_zero) (map f xs) xs ∙ ap (λ (l : List B). cond (ne step plus_zero) l (map g xs)) (map_each xs)

  map_unless : (few k : ℕ) (xs : List A) → map g (turned_unless few f k xs) ≡ turned_unless few f' k (map g xs)
  unfolding turned_unless
  map_unless few k xs =
      map-cond g (eqb k 0 || ltb (length xs) few) xs (turned f k xs)
      ∙ (λ i. cond (eqb k 0 || ltb (sym (length-map xs g) i) few) (map g xs) (map_turned g f f' e k xs i))

  pub map-begin_ring_at : (k : ℕ) (xs : List A) → map g (begin_ring_at f k xs) ≡ begin_ring_at f' k (map g xs)
  map-begin_ring_at k xs = map_unless 4 k xs

  pub map-recut_at : (k : ℕ) (xs : List A) → map g (recut_at f k xs) ≡ recut_at f' k (map g xs)
  map-recut_at k xs = map_unless 2 k xs

  module _ (put : A → A) (put' : B → B) (d : (a : A) → g (put a) ≡ put' (g a)) where
    pub map-align_at : (k : ℕ) (xs : List A) → map g (align_at f put k xs) ≡ align_at f' put' k (map g xs)
    unfolding align_at turned_onto
    map-align_at k xs =
        map-cond g (ltb (length xs) 3) xs (closed f (map put b))
        ∙ (λ i. cond (ltb (sym (length-map xs g) i) 3) (map g xs) (ring i))
      where
        b : List A
        b = begun f k (drop_last xs)

        ring : map g (closed f (map put b)) ≡ closed f' (map put' (begun f' k (drop_last (map g xs))))
        ring =
            map-closed g f f' e (map put b)
            ∙ ap (closed f') (map-put b ∙ ap (map put') (map-begun g f f' e k (drop_last xs) ∙ ap (begun f' k) (map-drop_last g xs)))
          where
            map-put : (xs : List A) → map g (map put xs) ≡ map put' (map g xs)
            map-put [] = refl
            map-put (x ∷ xs) = λ i. d x i ∷ map-put xs i
