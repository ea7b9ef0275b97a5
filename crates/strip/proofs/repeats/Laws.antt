-- The fold that drops repeats, and the trailing pass.
use Prim.Native.Nat.{ℕ, ◌+◌, ◌-◌, ◌≤◌, ◌<◌, min}
use mathlib.Core.Path.{◌≡◌, refl, sym, ap, ◌∙◌}
use mathlib.Core.Bool.{Bool, true, false, cond}
use mathlib.Core.List.{List, [], ◌∷◌, ◌++◌}
use native.Mathlib.Nat.{not-suc-le-zero}
use native.Mathlib.Numerals.{add-one}
use native.Mathlib.Omega.{arith}
use lib.ListN.{length, get_or, set, take, drop, length-append, length-set, drop_of_length-le}
use lib.Seq.{append_snoc, drop-cons, take-length, length-take-le}
use Rattle.numbers.specs.declared.math.Vec3.{Vec3}
use Rattle.lists.specs.Placed.{placed}
use Rattle.lists.proofs.Placed.{placed-none, placed_grows}
use Rattle.loops.specs.Repeats.{kept_from, drop_successive, drop_trailing, keep}
use Rattle.loops.proofs.Trailing.{trailing_step, trailing_end}
use Rattle.tables.specs.Corners.{Corner, Corners}
use Rattle.tables.specs.Rows.{rows, corner_of, none}
use Rattle.tables.specs.declared.corners.Corner.{Corner as Held}
use Rattle.tables.proofs.Rows.{length-rows, rows-set, row_at, absent}
use Rattle.strip.specs.Corners.{same_at}

-- ---- for any elements: of the elements before i, `done` and `last` stay

module _ {A : Type 0} (same : A → A → Bool) (merge : A → A → A) where
  kept_fewer : (xs : List A) (x : A) → length (kept_from same merge x xs) ≤ length (x ∷ xs)
  unfolding kept_from
  kept_fewer [] x = omega arith
  kept_fewer (y ∷ xs) x = pick (same x y) (kept_fewer xs (merge x y)) (kept_fewer xs y)
    where
      pick : (t : Bool) → length (kept_from same merge (merge x y) xs) ≤ length (merge x y ∷ xs) → length (kept_from same merge y xs) ≤ length (y ∷ xs)
          → length (cond t (kept_from same merge (merge x y) xs) (x ∷ kept_from same merge y xs)) ≤ length (x ∷ y ∷ xs)
      pick true p q = omega arith
      pick false p q = omega arith

  pub successive_fewer : (xs : List A) → length (drop_successive same merge xs) ≤ length xs
  unfolding drop_successive
  successive_fewer [] = omega arith
  successive_fewer (x ∷ xs) = kept_fewer xs x

module _ {A : Type 0} (same : A → A → Bool) (merge : A → A → A) (z : A) (xs : List A) where
  pub record Sweeping (done : List A) (last : A) (i : ℕ) : Type 0 where
    pub far : i ≤ length xs
    pub few : length done < i
    pub rest : drop_successive same merge xs ≡ done ++ kept_from same merge last (drop i xs)

  pub sweeping : 0 < length xs → Sweeping [] (get_or xs 0 z) 1
  unfolding drop_successive
  sweeping h = record { far = omega arith; few = omega arith; rest = start xs h }
    where
      start : (l : List A) → 0 < length l → drop_successive same merge l ≡ kept_from same merge (get_or l 0 z) (drop 1 l)
      start [] h = absurd (not-suc-le-zero h)
      start (x ∷ l) h = refl

  next : (last : A) (i : ℕ) (t : Bool) → i < length xs → same last (get_or xs i z) ≡ t
      → kept_from same merge last (drop i xs) ≡ cond t (kept_from same merge (merge last (get_or xs i z)) (drop (i + 1) xs)) (last ∷ kept_from same merge (get_or xs i z) (drop (i + 1) xs))
  unfolding kept_from
  next last i t h e = rw (drop-cons xs i z h, add-one i) (rw e)

  module _ (done : List A) (last x : A) (i : ℕ) (w : Sweeping done last i) (h : i < length xs) (is : x ≡ get_or xs i z) where
    pub sweep_repeat : same last x ≡ true → Sweeping done (merge last x) (i + 1)
    sweep_repeat e = record {
      far = omega arith;
      few = let f = w.few in omega arith;
      rest = w.rest ∙ ap (λ (l : List A). done ++ l) (next last i true h (ap (same last) (sym is) ∙ e) ∙ ap (λ (a : A). kept_from same merge (merge last a) (drop (i + 1) xs)) (sym is));
    }

    pub sweep_other : same last x ≡ false → Sweeping (done ++ (last ∷ [])) x (i + 1)
    sweep_other e = record {
      far = omega arith;
      few = let f = w.few in omega (arith, length-append done (last ∷ []));
      rest = w.rest
          ∙ ap (λ (l : List A). done ++ l) (next last i false h (ap (same last) (sym is) ∙ e) ∙ ap (λ (a : A). last ∷ kept_from same merge a (drop (i + 1) xs)) (sym is))
          ∙ sym (append_snoc done last (kept_from same merge x (drop (i + 1) xs)));
    }

  pub sweep_end : (done : List A) (last : A) (i : ℕ) → Sweeping done last i → length xs ≤ i → drop_successive same merge xs ≡ done ++ (last ∷ [])
  unfolding kept_from
  sweep_end done last i w h = w.rest ∙ ap (λ (l : List A). done ++ kept_from same merge last l) (drop_of_length-le xs h)

-- ---- `keep_successive`

module _ (xs : Corners Vec3) (n : ℕ) (t₀ : List Held) where
  abbrev kept : Corners Vec3
  kept = drop_successive same_at keep xs

  pub record Folding (t : List Held) (last : Corner Vec3) (m i : ℕ) : Type 0 where
    pub done : Corners Vec3
    pub all : n ≡ length xs
    pub room : n ≤ length t₀
    pub far : i ≤ n
    pub few : m < i
    pub count : length done ≡ m
    pub sweep : Sweeping same_at keep none xs done last i
    pub is : rows t ≡ placed 0 done (rows t₀)
    pub long : length t ≡ length t₀

  pub fold_none : n ≡ length xs → n ≡ 0 → (0 ≡ length kept) × (rows t₀ ≡ placed 0 kept (rows t₀))
  unfolding drop_successive
  fold_none e z = at xs (sym e ∙ z)
    where
      at : (l : Corners Vec3) → length l ≡ 0 → (0 ≡ length (drop_successive same_at keep l)) × (rows t₀ ≡ placed 0 (drop_successive same_at keep l) (rows t₀))
      at [] h = (refl, sym (placed-none 0 (rows t₀)))
      at (x ∷ l) h = absurd (omega arith)

  pub folding : (last : Corner Vec3) → n ≡ length xs → n ≤ length t₀ → (n ≡ 0 → ⊥) → last ≡ get_or xs 0 none → Folding t₀ last 0 1
  folding last e r some is = record {
    done = [];
    all = e;
    room = r;
    far = omega arith;
    few = omega arith;
    count = refl;
    sweep = rw is (sweeping same_at keep none xs (omega arith));
    is = sym (placed-none 0 (rows t₀));
    long = refl;
  }

  module _ (t : List Held) (last : Held) (m i : ℕ) (f : Folding t (corner_of last) m i) where
    -- the last one stored where those before it end
    stored : rows (set t m last) ≡ placed 0 (f.done ++ (corner_of last ∷ [])) (rows t₀)
    stored =
        let w = f.few in
        let r = f.room in
        let far = f.far in
        let l = length-rows t₀ in
        rows-set t m last ∙ ap (λ (d : Corners Vec3). set d m (corner_of last)) f.is
        ∙ placed_grows f.done (rows t₀) m (corner_of last) f.count (omega arith)

    more : length (f.done ++ (corner_of last ∷ [])) ≡ m + 1
    more = length-append f.done (corner_of last ∷ []) ∙ ap (λ (k : ℕ). k + 1) f.count

    module _ (next : Held) (b : Bool) (h : i < n) (next_is : corner_of next ≡ get_or xs i none) (told : b ≡ same_at (corner_of last) (corner_of next)) where
      pub fold_repeat : b ≡ true → Folding t (corner_of last) m (i + 1)
      fold_repeat e = record {
        done = f.done;
        all = f.all;
        room = f.room;
        far = omega arith;
        few = let w = f.few in omega arith;
        count = f.count;
        sweep = sweep_repeat same_at keep none xs f.done (corner_of last) (corner_of next) i f.sweep (let c = f.all in omega arith) next_is (sym told ∙ e);
        is = f.is;
        long = f.long;
      }

      pub fold_other : b ≡ false → Folding (set t m last) (corner_of next) (m + 1) (i + 1)
      fold_other e = record {
        done = f.done ++ (corner_of last ∷ []);
        all = f.all;
        room = f.room;
        far = omega arith;
        few = let w = f.few in omega arith;
        count = more;
        sweep = sweep_other same_at keep none xs f.done (corner_of last) (corner_of next) i f.sweep (let c = f.all in omega arith) next_is (sym told ∙ e);
        is = stored;
        long = simp length-set f.long;
      }

    pub fold_end : n ≤ i → (m + 1 ≡ length kept) × (rows (set t m last) ≡ placed 0 kept (rows t₀))
    fold_end h =
        let c = f.all in
        let whole : kept ≡ f.done ++ (corner_of last ∷ []) = sweep_end same_at keep none xs f.done (corner_of last) i f.sweep (omega arith) in
        (sym (ap length whole ∙ more), stored ∙ ap (λ (w : Corners Vec3). placed 0 w (rows t₀)) (sym whole))

-- ---- `trim`

-- those before row r and all that is dropped behind it
module _ (t : List Held) where
  abbrev ws : Corners Vec3
  ws = rows t

  pub record Trimming (r : ℕ) : Type 0 where
    pub far : r ≤ length t
    pub least : min 3 (length t) ≤ r
    pub is : drop_trailing same_at keep ws ≡ drop_trailing same_at keep (take r ws)

  pub trimming : (r : ℕ) → r ≡ length t → Trimming r
  trimming r e = record {
    far = omega arith;
    least = omega arith;
    is = ap (drop_trailing same_at keep) (sym (ap (λ (k : ℕ). take k ws) (e ∙ sym (length-rows t)) ∙ take-length ws));
  }

  stays : (r : ℕ) → Trimming r → drop_trailing same_at keep (take r ws) ≡ take r ws → r ≡ length (drop_trailing same_at keep ws)
  stays r w e = sym (ap length (w.is ∙ e) ∙ length-take-le r ws (let l = length-rows t in let far = w.far in omega arith))

  module _ (r : ℕ) (b : Bool) (w : Trimming r) (h : 3 < r) (told : b ≡ same_at (corner_of (get_or t 0 absent)) (corner_of (get_or t (r - 1) absent))) where
    step : drop_trailing same_at keep (take r ws) ≡ cond b (drop_trailing same_at keep (take (r - 1) ws)) (take r ws)
    step =
        let far = w.far in
        let l = length-rows t in
        trailing_step same_at none ws r h (omega arith)
        ∙ ap (λ (t : Bool). cond t (drop_trailing same_at keep (take (r - 1) ws)) (take r ws))
        (sym (told ∙ (λ i. same_at (sym (row_at t 0 (omega arith)) i) (sym (row_at t (r - 1) (omega arith)) i))))

    pub trim_again : b ≡ true → Trimming (r - 1)
    trim_again t = record {
      far = let c = w.far in omega arith;
      least = omega arith;
      is = w.is ∙ step ∙ ap (λ (t : Bool). cond t (drop_trailing same_at keep (take (r - 1) ws)) (take r ws)) t;
    }

    pub trim_stop : b ≡ false → r - 1 + 1 ≡ length (drop_trailing same_at keep ws)
    trim_stop t =
        let one : r - 1 + 1 ≡ r = omega arith in
        one ∙ stays r w (step ∙ ap (λ (t : Bool). cond t (drop_trailing same_at keep (take (r - 1) ws)) (take r ws)) t)

  pub trim_few : (r : ℕ) → Trimming r → r ≤ 3 → min (length t) 3 ≡ length (drop_trailing same_at keep ws)
  trim_few r w h =
      let a = w.far in
      let b = w.least in
      let e : min (length t) 3 ≡ r = omega arith in
      e ∙ stays r w (trailing_end same_at ws r h)
