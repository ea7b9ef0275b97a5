-- The divisions that are kept, one after the other, and the rungs counted and written by them, on plain values.
use Rattle.std.proofs.Common.{◌≡◌, ℕ, suc, ◌+◌, ◌-◌, ◌<◌, ◌≤◌, max, Bool, true, false, cond, leb, List, [], ◌∷◌, ◌++◌, length, drop, set, sym, refl, ap, ◌∙◌, add-one, arith, length-set, set-set, leb-false, leb-true}
use mathlib.Core.List.{drop_last}
use lib.Seq.{sets, drop-nil}
use lib.Ieee.{Float, ne}
use Rattle.surfaces.specs.Rungs.{division, divisions_from, slack_of, near, kept_after, kept_divisions, kept_left, ended_on, rungs, EndsOn, EndWritten, placed}
use Rattle.surfaces.specs.declared.knots.KeptDivisions.{KeptDivisions}
use Rattle.surfaces.proofs.knots.Ended.{ended_is, ended_length}
use Rattle.surfaces.proofs.knots.Kept.{kept_step, kept_after_lem, kept-few}
use Rattle.surfaces.proofs.knots.Rungs.{from-length, kept_are, rungs-kept, rungs-set, rungs-end, end-written, kept-most}

-- ---- elements stored as those of number k, k + 1, .. of a list whose number `from` stands at 0
unfoldable pub writes : ℕ → ℕ → List Float → List Float → List Float
writes from k [] os = os
writes from k (x ∷ xs) os = writes from (suc k) xs (placed from k x os)

-- storing one, and storing several, keeps the length
place-length : (from k : ℕ) (x : Float) (os : List Float) → length (placed from k x os) ≡ length os
unfolding placed
place-length from k x os = go (leb from k)
  where
    go : (b : Bool) → length (cond b (set os (k - from) x) os) ≡ length os
    go true = length-set os (k - from) x
    go false = refl

writes-length : (from k : ℕ) (xs os : List Float) → length (writes from k xs os) ≡ length os
unfolding writes
writes-length from k [] os = refl
writes-length from k (x ∷ xs) os = writes-length from (suc k) xs (placed from k x os) ∙ place-length from k x os

writes_is : (from k : ℕ) (xs os : List Float) → writes from k xs os ≡ sets os (k - from) (drop (from - k) xs)
unfolding writes placed
writes_is from k [] os = ap (sets os (k - from)) (sym (drop-nil (from - k)))
writes_is from k (x ∷ xs) os = go (leb from k) refl (writes_is from (suc k) xs)
  where
    go : (b : Bool) → leb from k ≡ b → ((l : List Float) → writes from (suc k) xs l ≡ sets l (suc k - from) (drop (from - suc k) xs))
        → writes from (suc k) xs (cond b (set os (k - from) x) os) ≡ sets os (k - from) (drop (from - k) (x ∷ xs))
    go true h rest =
        let l : from ≤ k = leb-true from k h in
        let e1 : suc k - from ≡ suc (k - from) = omega arith in
        let e2 : from - suc k ≡ 0 = omega arith in
        let e3 : from - k ≡ 0 = omega arith in
        rw e3 (rest (set os (k - from) x) ∙ rw (e1, e2))
    go false h rest =
        let l : k < from = leb-false from k h in
        let e1 : suc k - from ≡ 0 = omega arith in
        let e2 : from - k ≡ suc (from - suc k) = omega arith in
        let e3 : k - from ≡ 0 = omega arith in
        rw (e2, e3) (rest os ∙ rw e1)

-- stored twice in one place, the later stays
placed_twice : (from k : ℕ) (x y : Float) (os : List Float) → placed from k y (placed from k x os) ≡ placed from k y os
unfolding placed
placed_twice from k x y os = go (leb from k)
  where
    go : (b : Bool) → cond b (set (cond b (set os (k - from) x) os) (k - from) y) (cond b (set os (k - from) x) os) ≡ cond b (set os (k - from) y) os
    go true = set-set os (k - from) x y
    go false = refl

-- the last of them stored anew, or one more after none
writes_ended : (from j : ℕ) (xs : List Float) (y : Float) (os : List Float)
    → writes from (suc j) (drop_last xs ++ (y ∷ [])) os ≡ placed from (j + max (length xs) 1) y (writes from (suc j) xs os)
unfolding writes
writes_ended from j [] y os = let e : j + 1 ≡ suc j = omega arith in ap (λ (k : ℕ). placed from k y os) (sym e)
writes_ended from j (x ∷ []) y os =
    let e : j + 1 ≡ suc j = omega arith in
    sym (placed_twice from (suc j) x y os) ∙ ap (λ (k : ℕ). placed from k y (placed from (suc j) x os)) (sym e)
writes_ended from j (x ∷ z ∷ zs) y os =
    let e : suc j + max (length (z ∷ zs)) 1 ≡ j + max (length (x ∷ z ∷ zs)) 1 = omega arith in
    writes_ended from (suc j) (z ∷ zs) y (placed from (suc j) x os)
    ∙ ap (λ (k : ℕ). placed from k y (writes from (suc (suc j)) (z ∷ zs) (placed from (suc j) x os))) e

-- all of them, the first being number 0
writes_all : (from : ℕ) (x : Float) (xs os : List Float) → writes from 1 xs (placed from 0 x os) ≡ sets os 0 (drop from (x ∷ xs))
unfolding writes
writes_all from x xs os =
    let e1 : 0 - from ≡ 0 = omega arith in
    let e2 : from - 0 ≡ from = omega arith in
    writes_is from 0 (x ∷ xs) os ∙ rw (e1, e2)

-- the list x, xs stored, and y in the place of its last
all_ended : (from : ℕ) (x : Float) (xs : List Float) (y : Float) (os : List Float)
    → sets os 0 (drop from (ended_on y (x ∷ xs))) ≡ placed from (max (length xs) 1) y (sets os 0 (drop from (x ∷ xs)))
all_ended from x xs y os =
    let z : 0 + max (length xs) 1 ≡ max (length xs) 1 = omega arith in
    ap (λ (l : List Float). sets os 0 (drop from l)) (ended_is y x xs)
    ∙ sym (writes_all from x (drop_last xs ++ (y ∷ [])) os)
    ∙ writes_ended from 0 xs y (placed from 0 x os)
    ∙ ap (λ (j : ℕ). placed from j y (writes from 1 xs (placed from 0 x os))) z
    ∙ ap (placed from (max (length xs) 1) y) (writes_all from x xs os)

-- ---- what is kept behind the division i, where `last` was kept last
module _ (lo hi : Float) (n : ℕ) (e : Float) where
  abbrev pub left : Float → ℕ → List Float
  left last i = kept_after e last (divisions_from lo hi n (suc i) (n - i))

  next : (i : ℕ) → i < n → divisions_from lo hi n (suc i) (n - i) ≡ division lo hi n (i + 1) ∷ divisions_from lo hi n (suc (i + 1)) (n - (i + 1))
  unfolding divisions_from
  next i h = let q : n - i ≡ suc (n - (i + 1)) = omega arith in rw (q, add-one)

  pub left_step : (last : Float) (i : ℕ) {x : Float} {r : Bool} (t : Bool) → i < n → x ≡ division lo hi n (i + 1) → r ≡ near e x last → r ≡ t → left last i ≡ cond t (left last (i + 1)) (x ∷ left x (i + 1))
  left_step last i {x} t h p q s =
      let rest = divisions_from lo hi n (suc (i + 1)) (n - (i + 1)) in
      ap (kept_after e last) (next i h ∙ ap (λ (y : Float). y ∷ rest) (sym p)) ∙ kept_step e last x rest
      ∙ ap (λ (b : Bool). cond b (left last (i + 1)) (x ∷ left x (i + 1))) (sym q ∙ s)

  pub left_none : (last : Float) (i : ℕ) → n ≤ i → left last i ≡ []
  unfolding kept_after divisions_from
  left_none last i h = let z : n - i ≡ 0 = omega arith in rw z

pub left-few : (s : KeptDivisions) → length (kept_left s) ≤ s.n
unfolding kept_left
left-few s =
    let ds = divisions_from s.lo s.hi s.n (suc s.passed) (s.n - s.passed) in
    let few = kept-few (kept_after_lem s.slack s.last ds) in
    let all = from-length s.lo s.hi s.n (suc s.passed) (s.n - s.passed) in
    omega arith

module _ (lo hi : Float) (n : ℕ) where
  -- what is kept behind the first
  abbrev others : List Float
  others = drop 1 (kept_divisions lo hi n)

  pub left-start : {e last : Float} → e ≡ slack_of lo hi → last ≡ division lo hi n 0 → left lo hi n e last 0 ≡ others
  unfolding kept_divisions divisions_from
  left-start p q = let z : n - 0 ≡ n = omega arith in rw (z, q, p)

  first_of : kept_divisions lo hi n ≡ division lo hi n 0 ∷ others
  first_of = kept_are lo hi n ∙ ap (λ (l : List Float). division lo hi n 0 ∷ drop 1 l) (sym (kept_are lo hi n))

  pub others-few : length others ≤ n
  others-few = let m = kept-most lo hi n in let f = ap length first_of in omega arith

  -- ---- how many rungs, where k are kept behind the first: where the ends are one as numbers, and where they differ
  module _ {k : ℕ} (all : k ≡ length others) where
    kept_all : suc k ≡ length (kept_divisions lo hi n)
    kept_all = let e = ap length first_of in omega arith

    pub counted_end : ne lo hi ≡ false → (k ≡ length (rungs lo hi n) - 1) × EndsOn lo hi k (rungs lo hi n)
    counted_end t =
        let q = kept_all in
        let e = ap length (rungs-kept lo hi n t) in
        let count : k ≡ length (rungs lo hi n) - 1 = omega arith in
        (count, rungs-end lo hi n k count)

    pub counted_ended : ne lo hi ≡ true → {r : ℕ} → r ≡ max k 1 → (r ≡ length (rungs lo hi n) - 1) × EndsOn lo hi r (rungs lo hi n)
    counted_ended t {r} s =
        let q = kept_all in
        let e = ap length (rungs-set lo hi n t) ∙ ended_length hi (kept_divisions lo hi n) (omega arith) in
        let count : r ≡ length (rungs lo hi n) - 1 = omega arith in
        (count, rungs-end lo hi n r count)

  -- ---- each rung written when it is found: k of those behind the first are, `rest` are not
  module _ (from : ℕ) (o₀ : List Float) where
    pub record Writing (o : List Float) (k : ℕ) (rest : List Float) : Type 0 where
      pub counted : k + length rest ≡ length others
      pub is : writes from (suc k) rest o ≡ writes from 1 others o₀

    pub writing_start : {rest : List Float} → rest ≡ others → Writing o₀ 0 rest
    writing_start e = record { counted = let l = ap length e in omega arith; is = ap (λ (l : List Float). writes from 1 l o₀) e }

    module _ {o rest : List Float} {k : ℕ} (w : Writing o k rest) where
      -- the slice keeps its length
      pub writing-long : length o ≡ length o₀
      writing-long = sym (writes-length from (suc k) rest o) ∙ ap length w.is ∙ writes-length from 1 others o₀

      module _ {x : Float} {behind : List Float} (e : rest ≡ x ∷ behind) where
        pub writing_few : k < n
        writing_few = let l = ap length e in let q = w.counted in let m = others-few in omega arith

        pub writing_turn : {o' : List Float} → o' ≡ placed from (k + 1) x o → Writing o' (k + 1) behind
        unfolding writes
        writing_turn put =
            record {
              counted = let l = ap length e in let q = w.counted in omega arith;
              is =
                  ap (writes from (suc (k + 1)) behind) put
                  ∙ ap (λ (j : ℕ). writes from (suc j) behind (placed from j x o)) (add-one k)
                  ∙ ap (λ (l : List Float). writes from (suc k) l o) (sym e)
                  ∙ w.is;
            }

      module _ (none : rest ≡ []) {first : Float} (os : List Float) (first_is : first ≡ division lo hi n 0) (put : o₀ ≡ placed from 0 first os) where
        written : o ≡ sets os 0 (drop from (kept_divisions lo hi n))
        unfolding writes
        written =
            sym (ap (λ (l : List Float). writes from (suc k) l o) none) ∙ w.is
            ∙ ap (writes from 1 others) (put ∙ ap (λ (x : Float). placed from 0 x os) first_is)
            ∙ writes_all from (division lo hi n 0) others os
            ∙ ap (λ (l : List Float). sets os 0 (drop from l)) (sym first_of)

        pub writing_end : ne lo hi ≡ false → (o ≡ sets os 0 (drop from (rungs lo hi n))) × EndWritten lo hi n from o
        writing_end t =
            let all = written ∙ ap (λ (l : List Float). sets os 0 (drop from l)) (sym (rungs-kept lo hi n t)) in
            (all, end-written lo hi n from os o all)

        pub writing_ended : ne lo hi ≡ true → {m : ℕ} → m ≡ max k 1 → {o' : List Float} → o' ≡ placed from m hi o
            → (o' ≡ sets os 0 (drop from (rungs lo hi n))) × EndWritten lo hi n from o'
        writing_ended t {m} top {o'} end =
            let count : m ≡ max (length others) 1 = (let q = w.counted in let l = ap length none in omega arith) in
            let all : o' ≡ sets os 0 (drop from (rungs lo hi n)) =
            end ∙ (λ i. placed from (count i) hi (written i)) ∙ ap (λ (l : List Float). placed from (max (length others) 1) hi (sets os 0 (drop from l))) first_of
            ∙ sym (all_ended from (division lo hi n 0) others hi os) ∙ ap (λ (l : List Float). sets os 0 (drop from (ended_on hi l))) (sym first_of)
            ∙ ap (λ (l : List Float). sets os 0 (drop from l)) (sym (rungs-set lo hi n t)) in
            (all, end-written lo hi n from os o' all)
