-- All elements of a list but two: how much they are together, and that they are those that do not pass a test which the two alone pass. Lists one behind
-- the other.
use Prim.Native.Nat.{ℕ, zero, suc, ◌+◌, ◌≤◌, ◌<◌}
use mathlib.Core.Path.{◌≡◌, refl, sym, ap, ◌∙◌}
use mathlib.Core.Bool.{Bool, true, false, cond, not, ◌||◌, true≢false}
use mathlib.Core.List.{List, [], ◌∷◌, ◌++◌, map, flatten, append_assoc}
use native.Mathlib.Omega.{arith}
use borrow.Author.Tests.{eq-eqb, ne_eqb}
use lib.Dec.{eqb}
use lib.ListN.{length, get_or, take, drop, length-append, length-drop}
use lib.Seq.{take_at, drop_at, take-add, length-take-le}
use Rattle.lists.specs.Pieces.{pieces}
use Rattle.lists.specs.Elements.{only, sum}
use Rattle.holes.specs.Others.{is_ring, others_from, others}
use Rattle.holes.proofs.Picking.{others-first}

-- ---- which are the two

pub is_first : (a b i : ℕ) → i ≡ a → is_ring a b i ≡ true
is_first a b i e = ap (λ (t : Bool). t || eqb i b) (eq-eqb i a e)

pub is_second : (a b i : ℕ) → ((i ≡ a) → ⊥) → i ≡ b → is_ring a b i ≡ true
is_second a b i n e = λ k. ne_eqb i a n k || eq-eqb i b e k

pub is_neither : (a b i : ℕ) → ((i ≡ a) → ⊥) → ((i ≡ b) → ⊥) → is_ring a b i ≡ false
is_neither a b i n m = λ k. ne_eqb i a n k || ne_eqb i b m k

-- ---- with the two they are all

module _ {A : Type 0} (size : A → ℕ) (d : A) (a b : ℕ) where
  past_both : (i : ℕ) (xs : List A) → a < i → b < i → others_from a b i xs ≡ xs
  unfolding others_from
  past_both i [] h k = refl
  past_both i (x ∷ xs) h k =
      others-first a b i x xs false (is_neither a b i (λ z. omega arith) (λ z. omega arith)) ∙ ap (λ (l : List A). x ∷ l) (past_both (suc i) xs (omega arith) (omega arith))

  -- the size of the others from i on, with x first
  sized : (i : ℕ) (x : A) (xs : List A) (t : Bool) → is_ring a b i ≡ t
      → sum (map size (others_from a b i (x ∷ xs))) ≡ cond t (sum (map size (others_from a b (suc i) xs))) (size x + sum (map size (others_from a b (suc i) xs)))
  unfolding sum
  sized i x xs true e = ap (λ (l : List A). sum (map size l)) (others-first a b i x xs true e)
  sized i x xs false e = ap (λ (l : List A). sum (map size l)) (others-first a b i x xs false e)

  past_one : (i p : ℕ) (xs : List A) → a ≡ i + p → b < i → p < length xs → sum (map size (others_from a b i xs)) + size (get_or xs p d) ≡ sum (map size xs)
  unfolding sum
  past_one i p [] e h k = absurd (omega arith)
  past_one i zero (x ∷ xs) e h k =
      let s = sized i x xs true (is_first a b i (omega arith)) in
      let r = ap (λ (l : List A). sum (map size l)) (past_both (suc i) xs (omega arith) (omega arith)) in
      omega arith
  past_one i (suc p) (x ∷ xs) e h k =
      let s = sized i x xs false (is_neither a b i (λ z. omega arith) (λ z. omega arith)) in
      let r = past_one (suc i) p xs (omega arith) (omega arith) (omega arith) in
      omega arith

  both : (i p q : ℕ) (xs : List A) → a ≡ i + p → b ≡ i + q → q < p → p < length xs
      → sum (map size (others_from a b i xs)) + (size (get_or xs p d) + size (get_or xs q d)) ≡ sum (map size xs)
  unfolding sum
  both i p q [] e f h k = absurd (omega arith)
  both i zero q (x ∷ xs) e f h k = absurd (omega arith)
  both i (suc p) zero (x ∷ xs) e f h k =
      let s = sized i x xs true (is_second a b i (λ z. omega arith) (omega arith)) in
      let r = past_one (suc i) p xs (omega arith) (omega arith) (omega arith) in
      omega arith
  both i (suc p) (suc q) (x ∷ xs) e f h k =
      let s = sized i x xs false (is_neither a b i (λ z. omega arith) (λ z. omega arith)) in
      let r = both (suc i) p q xs (omega arith) (omega arith) (omega arith) (omega arith) in
      omega arith

  pub others-sum : (xs : List A) → b < a → a < length xs → sum (map size (others a b xs)) + (size (get_or xs a d) + size (get_or xs b d)) ≡ sum (map size xs)
  others-sum xs h k = both 0 a b xs (omega arith) (omega arith) h k

ones : {A : Type 0} (xs : List A) → sum (map (λ (x : A). 1) xs) ≡ length xs
unfolding sum
ones [] = refl
ones (x ∷ xs) = let n = ones xs in omega arith

pub others_many : {A : Type 0} (d : A) (a b : ℕ) (xs : List A) → b < a → a < length xs → length (others a b xs) + 2 ≡ length xs
others_many d a b xs h k = let s = others-sum (λ x. 1) d a b xs h k in let n = ones (others a b xs) in let m = ones xs in omega arith

-- ---- lists one behind the other

pub total-length : {A : Type 0} (xss : List (List A)) → sum (map length xss) ≡ length (flatten xss)
unfolding sum flatten
total-length [] = refl
total-length (xs ∷ xss) = let n = total-length xss in let m = length-append xs (flatten xss) in omega arith

-- they are told apart by their lengths, whatever lies behind them
pub pieces-front : {A : Type 0} (xss : List (List A)) (rest : List A) → pieces (map length xss) (flatten xss ++ rest) ≡ xss
unfolding pieces flatten
pieces-front [] rest = refl
pieces-front (xs ∷ xss) rest =
    ap (pieces (length xs ∷ map length xss)) (append_assoc xs (flatten xss) rest)
    ∙ (λ i. take_at xs (flatten xss ++ rest) (length xs) refl i ∷ pieces (map length xss) (drop_at xs (flatten xss ++ rest) (length xs) refl i))
    ∙ ap (λ (l : List (List _)). xs ∷ l) (pieces-front xss rest)

-- ---- those that do not pass a test

module _ {A B : Type 0} (f : A → B) (test : A → Bool) (none : A) (a b : ℕ) where
  -- Where exactly the elements of number a and b pass the test, what does not pass is the others.
  pub others_are : (xs : List A) (i : ℕ) → ((k : ℕ) → k < length xs → test (get_or xs k none) ≡ is_ring a b (i + k)) → map f (only (λ (x : A). not (test x)) xs) ≡ others_from a b i (map f xs)
  unfolding only others_from
  others_are [] i h = refl
  others_are (x ∷ xs) i h =
      by (others_are xs (suc i) (λ k l. h (suc k) (omega arith) ∙ ap (is_ring a b) (omega arith))) (is_ring a b i) (test x) (h 0 (omega arith) ∙ ap (is_ring a b) (omega arith))
    where
      by : map f (only (λ (x : A). not (test x)) xs) ≡ others_from a b (suc i) (map f xs) → (r t : Bool) → t ≡ r
          → map f (cond (not t) (x ∷ only (λ (x : A). not (test x)) xs) (only (λ (x : A). not (test x)) xs)) ≡ cond r (others_from a b (suc i) (map f xs)) (f x ∷ others_from a b (suc i) (map f xs))
      by rest true true e = rest
      by rest false false e = ap (λ (l : List B). f x ∷ l) rest
      by rest true false e = absurd (true≢false (sym e))
      by rest false true e = absurd (true≢false e)

-- ---- pieces, and how long they are

module _ {A : Type 0} where
  pub pieces_long : (ns : List ℕ) (xs : List A) → sum ns ≤ length xs → map length (pieces ns xs) ≡ ns
  unfolding pieces sum
  pieces_long [] xs h = refl
  pieces_long (n ∷ ns) xs h =
      let d = length-drop n xs in
      λ i. length-take-le n xs (omega arith) i ∷ pieces_long ns (drop n xs) (omega arith) i

  pub flat_pieces : (ns : List ℕ) (xs : List A) → flatten (pieces ns xs) ≡ take (sum ns) xs
  unfolding flatten pieces sum
  flat_pieces [] xs = refl
  flat_pieces (n ∷ ns) xs = ap (λ (r : List A). take n xs ++ r) (flat_pieces ns (drop n xs)) ∙ sym (take-add n (sum ns) xs)
