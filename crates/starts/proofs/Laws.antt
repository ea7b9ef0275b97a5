-- Two rings put to a start, on copies of their u.
use Prim.Native.Nat.{ℕ, suc, ◌+◌, ◌-◌, ◌≤◌, ◌<◌}
use mathlib.Core.Path.{◌≡◌, refl, sym, ap, ◌∙◌}
use mathlib.Core.Bool.{Bool, true, false, cond}
use mathlib.Core.List.{List, ◌++◌, map, append_assoc}
use native.Mathlib.Numerals.{add-one}
use native.Mathlib.Omega.{arith}
use borrow.Author.Tests.{lt-ltb, le-ltb}
use lib.Dec.{ltb}
use lib.Ieee.{Float}
use lib.ListN.{length, take, drop, length-map}
use lib.Seq.{drop-drop}
use Rattle.numbers.specs.declared.math.Vec3.{Vec3}
use Rattle.lists.specs.Placed.{placed}
use Rattle.lists.proofs.Placed.{placed-fits, length-placed, read_placed, before_placed, placed_whole}
use Rattle.tables.specs.Corners.{Corner, Corners, us}
use Rattle.tables.specs.Moves.{moved_by}
use Rattle.tables.specs.Rows.{rows}
use Rattle.tables.specs.declared.corners.Corner.{Corner as Held}
use Rattle.tables.specs.declared.moves.Move.TheVariants.{Up}
use Rattle.tables.proofs.Rows.{length-rows}
use Rattle.rings.specs.Choices.{first_of, first_from, begins_backward, serve}
use Rattle.rings.specs.Starts as Starts
use Rattle.rings.specs.Starts.{first_for, later_for, later_by, serves, first_serving}
use Rattle.rings.specs.Turns.{begin_ring_at}
use Rattle.rings.proofs.ReadRows.{us_of_reals}
use Rattle.rings.proofs.ByU.{first_by_u, us_later, length-first_for, length-later_for}
use Rattle.rings.proofs.Decisions.{serve_backward}
use Rattle.starts.specs.Search as Answer
use Rattle.starts.specs.Search.{not_searched, search_within}

length-us : (r : Corners Vec3) → length (us r) ≡ length r
length-us r = length-map r (λ (c : Corner Vec3). c.u)

-- ---- the u of a table's rows, copied to a place of their length

module _ (t : List Held) (d d₁ d₂ : List Float) (fits : length d ≡ length (rows t)) (copied : d₁ ≡ placed 0 (us (rows t)) d) where
  copy_is : d₁ ≡ us (rows t)
  copy_is = copied ∙ placed_whole (us (rows t)) d (length-us (rows t) ∙ sym fits)

  pub first_in : (period : Float) (k : ℕ) → d₂ ≡ begin_ring_at (moved_by (Up period)) k d₁ → d₂ ≡ us (first_for period k (rows t))
  first_in period k e = e ∙ ap (begin_ring_at (moved_by (Up period)) k) copy_is ∙ first_by_u period k (rows t)

  pub later_in : (period cut : Float) → d₂ ≡ later_by (λ u. u) moved_by period cut d₁ → d₂ ≡ us (later_for period cut (rows t))
  later_in period cut e = e ∙ ap (later_by (λ u. u) moved_by period cut) copy_is ∙ sym (us_later period cut (rows t))

-- of each ring as it is put, as many u as it had points
module _ (period : Float) (r : Corners Vec3) where
  pub length-first : (k : ℕ) → length (us (first_for period k r)) ≡ length r
  length-first k = length-us (first_for period k r) ∙ length-first_for period k r

  pub length-later : (cut : Float) → length (us (later_for period cut r)) ≡ length r
  length-later cut = length-us (later_for period cut r) ∙ length-later_for period cut r

-- a part written whole
pub part_written : (at e : ℕ) (w w' d : List Float) → w' ≡ w → at + length w ≡ e → e ≤ length d → take at d ++ (w' ++ drop (e - at) (drop at d)) ≡ placed at w d
part_written at e w w' d w_is end_is room =
    let m : at + (e - at) ≡ at + length w = omega arith in
    (λ i. take at d ++ (w_is i ++ (drop-drop (e - at) at d ∙ ap (λ (j : ℕ). drop j d) m) i))
    ∙ sym (append_assoc (take at d) w (drop (at + length w) d)) ∙ sym (placed-fits at w d (omega arith))

-- ---- how many starts a ring has

pub starts_of : (first : List Held) (all : ℕ) → all ≡ length first - 1 → all ≡ length (rows first) - 1
starts_of first all e = e ∙ ap (λ (n : ℕ). n - 1) (sym (length-rows first))

-- ---- one trial

module _ (period : Float) (first later : Corners Vec3) (k : ℕ) where
  abbrev begun : List Float
  begun = us (first_for period k first)

  -- of the two rings' u in slices of their own
  module _ (u : List Float) (u_is : u ≡ begun) where
    as_reals : map (λ (x : Float). x) u ≡ begun
    as_reals = us_of_reals u ∙ u_is

    pub slice_backward : (t : Bool) → t ≡ begins_backward (map (λ x. x) u) → t ≡ true → false ≡ serves period first later k
    unfolding serves
    slice_backward t e h = serve_backward period begun (us (later_for period (first_of begun) later)) t (e ∙ ap begins_backward as_reals) h

    pub slices_serve : (cut : Float) → cut ≡ first_of (map (λ x. x) u) → (w : List Float) → w ≡ us (later_for period cut later)
        → (t : Bool) → t ≡ serve period u w → t ≡ serves period first later k
    unfolding serves
    slices_serve cut cut_is w w_is t e =
        let there : w ≡ us (later_for period (first_of begun) later) = w_is ∙ ap (λ (c : Float). us (later_for period c later)) (cut_is ∙ ap first_of as_reals) in
        e ∙ (λ i. serve period (u_is i) (there i))

  -- of a scratch d: the parts that are put into it, the first ring's n values in front, and what is read out of it
  module _ (n : ℕ) (n_is : n ≡ length first) where
    long : length begun ≡ n
    long = length-first period first k ∙ sym n_is

    module _ (d d₁ : List Float) (room : length first + length later ≤ length d) (put : d₁ ≡ placed 0 begun d) where
      begun_read : take (n - 0) (drop 0 d₁) ≡ begun
      begun_read = let l = long in ap (λ (l : List Float). take (n - 0) (drop 0 l)) put ∙ read_placed 0 n begun d (omega arith) (omega arith)

      pub trial_backward : (t : Bool) → t ≡ begins_backward (take (n - 0) (drop 0 d₁)) → t ≡ true → false ≡ serves period first later k
      unfolding serves
      trial_backward t e h = serve_backward period begun (us (later_for period (first_of begun) later)) t (e ∙ ap begins_backward begun_read) h

      module _ (m : ℕ) (m_is : m ≡ length later) (cut : Float) (d₂ : List Float) (cut_is : cut ≡ first_of (take (n - 0) (drop 0 d₁)))
          (put₂ : d₂ ≡ placed n (us (later_for period cut later)) d₁) where
        there : n + length (us (later_for period cut later)) ≡ n + m
        there = ap (λ (j : ℕ). n + j) (length-later period later cut ∙ sym m_is)

        room₁ : n + m ≤ length d₁
        room₁ = let same : length d₁ ≡ length d = ap length put ∙ length-placed 0 begun d in omega arith

        begun_kept : take (n - 0) (drop 0 d₂) ≡ begun
        begun_kept =
            let whole : n - 0 ≡ n = omega arith in
            ap (take (n - 0)) put₂ ∙ rw whole (before_placed n (n + m) (us (later_for period cut later)) d₁ there room₁) ∙ begun_read

        later_read : take (n + m - n) (drop n d₂) ≡ us (later_for period (first_of begun) later)
        later_read =
            ap (λ (l : List Float). take (n + m - n) (drop n l)) put₂
            ∙ read_placed n (n + m) (us (later_for period cut later)) d₁ there room₁
            ∙ ap (λ (c : Float). us (later_for period c later)) (cut_is ∙ ap first_of begun_read)

        pub trial_both : (t : Bool) → t ≡ serve period (take (n - 0) (drop 0 d₂)) (take (n + m - n) (drop n d₂)) → t ≡ serves period first later k
        unfolding serves
        trial_both t e = e ∙ (λ i. serve period (begun_kept i) (later_read i))

-- ---- searching: the first of n numbers that passes

module _ (p : ℕ → Bool) (n : ℕ) where
  pub record Seeking (i : ℕ) : Type 0 where
    pub far : i ≤ n
    pub is : first_from p 0 n ≡ first_from p i (n - i)

  pub seeking : Seeking 0
  seeking = let q : n - 0 ≡ n = omega arith in record { far = omega arith; is = rw q }

  step : (i : ℕ) (t : Bool) → i < n → p i ≡ t → first_from p i (n - i) ≡ cond t i (first_from p (i + 1) (n - (i + 1)))
  unfolding first_from
  step i t h e = let q : n - i ≡ suc (n - (i + 1)) = omega arith in rw (q, add-one) (rw e)

  pub seeking_turn : (i : ℕ) → Seeking i → i < n → p i ≡ false → Seeking (i + 1)
  seeking_turn i s h e = record { far = omega arith; is = s.is ∙ step i false h e }

  pub seeking_found : (i : ℕ) → Seeking i → i < n → p i ≡ true → first_from p 0 n ≡ i
  seeking_found i s h e = s.is ∙ step i true h e

  pub seeking_end : (i : ℕ) → Seeking i → n ≤ i → first_from p 0 n ≡ n
  unfolding first_from
  seeking_end i s h = let q : n - i ≡ 0 = omega arith in let e : i ≡ n = omega (arith, s.far) in s.is ∙ rw (q, e)

-- ---- the search: after k turns no start before k serves, and the trial has its length

module _ (period : Float) (first later : Corners Vec3) where
  pub record Trying (all : ℕ) (trial₀ trial : List Float) (k : ℕ) : Type 0 where
    pub room : length first + length later ≤ length trial
    pub long : length trial ≡ length trial₀
    pub count : all ≡ length first - 1
    pub seek : Seeking (serves period first later) all k

  module _ (all : ℕ) (trial₀ : List Float) where
    pub trying : length first + length later ≤ length trial₀ → all ≡ length first - 1 → Trying all trial₀ trial₀ 0
    trying h e = record { room = h; long = refl; count = e; seek = seeking (serves period first later) all }

    module _ (trial : List Float) (k : ℕ) (s : Trying all trial₀ trial k) where
      pub trying_turn : (trial' : List Float) (t : Bool) → length trial' ≡ length trial → k < all → t ≡ serves period first later k → t ≡ false
          → Trying all trial₀ trial' (k + 1)
      trying_turn trial' t l h e f = record {
        room = let r = s.room in omega arith;
        long = l ∙ s.long;
        count = s.count;
        seek = seeking_turn (serves period first later) all k s.seek h (sym e ∙ f);
      }

      serving : first_from (serves period first later) 0 all ≡ first_serving period first later
      unfolding first_serving
      serving = ap (first_from (serves period first later) 0) s.count

      pub trying_found : (t : Bool) → k < all → t ≡ serves period first later k → t ≡ true → k ≡ first_serving period first later
      trying_found t h e f = sym (seeking_found (serves period first later) all k s.seek h (sym e ∙ f)) ∙ serving

      pub trying_end : all ≤ k → all ≡ first_serving period first later
      trying_end h = sym (seeking_end (serves period first later) all k s.seek h) ∙ serving

  -- ---- the answer

  module _ (room n m : ℕ) (n_is : n ≡ length first) (m_is : m ≡ length later) where
    pub not_searched_lem : room < n + m → not_searched ≡ search_within period room first later
    unfolding search_within
    not_searched_lem h = let k : room < length first + length later = omega arith in sym (rw (lt-ltb room (length first + length later) k))

    module _ (fits : n + m ≤ room) (k all : ℕ) (k_is : k ≡ first_serving period first later) (all_is : all ≡ length first - 1) where
      tested : (t : Bool) → ltb k all ≡ t → Answer.served period first later ≡ t
      unfolding Answer.served
      tested t e = (λ i. ltb (sym k_is i) (sym all_is i)) ∙ e

      found : (t : Bool) → Answer.served period first later ≡ t
          → search_within period room first later ≡ record { start = cond t k (cond (begins_backward (us first)) 1 0); tried = cond t (k + 1) all; served = t }
      unfolding search_within Answer.served Answer.tried Starts.start
      found t e =
          let h : length first + length later ≤ room = omega arith in
          rw (le-ltb room (length first + length later) h)
          (λ i. record { start = cond (e i) (sym k_is i) (cond (begins_backward (us first)) 1 0); tried = cond (e i) (sym k_is i + 1) (sym all_is i); served = e i })

      pub one-served : k < all → record { start = k; tried = k + 1; served = true } ≡ search_within period room first later
      one-served h = sym (found true (tested true (lt-ltb k all h)))

      pub none-served : (b t : Bool) → all ≤ k → b ≡ begins_backward (us first) → b ≡ t
          → record { start = cond t 1 0; tried = all; served = false } ≡ search_within period room first later
      none-served b t h e f =
          sym (found false (tested false (le-ltb k all h)) ∙ ap (λ (s : Bool). record { start = cond s 1 0; tried = all; served = false }) (sym e ∙ f))
