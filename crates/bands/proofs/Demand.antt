-- Demand 3 holds of a band as it is defined.
use Prim.Native.Nat.{ℕ, ◌<◌}
use mathlib.Core.Path.{◌≡◌, refl, sym, ap, ◌∙◌, subst}
use mathlib.Core.Bool.{Bool, true, false, cond, not, ◌||◌}
use mathlib.Core.List.{List, [], ◌∷◌, ◌++◌, map, reverse, map-map, map-append}
use mathlib.Core.Logic.{inl, inr}
use native.Mathlib.Omega.{arith}
use lib.Dec.{ltb, eqb}
use lib.IntN.{ℤ, ◌+ℤ◌, neg_ℤ}
use lib.Ieee.{Float}
use lib.ListN.{length, length-map}
use Rattle.numbers.specs.Rounded.{◌⊕◌}
use Rattle.lists.proofs.Maps.{map-reverse}
use Rattle.loops.specs.Steps.{PartialEquivalence, net}
use Rattle.loops.specs.Repeats.{drop_repeats, keep}
use Rattle.loops.specs.Rings.{begun, closed, turned, unchanged, ends_meet}
use Rattle.loops.proofs.Paths.{net-reverse}
use Rattle.loops.proofs.StripLaw.{net-strip}
use Rattle.loops.proofs.RingLaw.{net-turned, ends_reverse}
use Rattle.loops.proofs.Turns.{turned_twice}
use Rattle.loops.proofs.RepeatsLaw.{net-drop_repeats}
use Rattle.loops.proofs.Projections.{map-drop_repeats}
use Rattle.tables.specs.Corners.{Corner, Corners, us, positions, move_u, move_v}
use Rattle.rings.specs.Choices.{first_of, first_open_past, nearest}
use Rattle.rings.specs.Turns.{turned_unless, begin_ring_at, recut_at, turned_onto, align_at}
use Rattle.rings.specs.Starts.{start, raised, align_cuts, slide_to_cut}
use Rattle.rings.proofs.Carried.{map-unchanged, unless_unchanged, map-cond, map-unless_zero, map-begin_ring_at, map-recut_at, map-align_at}
use Rattle.bands.specs.Given.{Loop, Given}
use Rattle.bands.specs.Rings.{Face, rising, shifted, laid, seam, onto, on_strip, across_seam, gap_of, recut, cut_anew, has_strip, has_gap, reseam, trial, started}
use Rattle.bands.specs.Strip.{Setting, heights, wall, strip}
use Rattle.bands.specs.Band.{pick, pick_loop, joined, lower_first, lower, upper, lower_ring, upper_ring, strip_of, outer, holes}
use Rattle.bands.specs.Demand.{ring, Turn, Whole, Demand3}
use Rattle.bands.proofs.Recut.{recut_is}
use Rattle.bands.proofs.Lengths.{lengths_each, length-first, length-later}

module _ {A : Type 0} where
  abbrev at : Corner A → A
  at c = c.at

  -- ---- positions are carried

  unmoved_u : (f : Float → Float) (r : Corners A) → positions (map (move_u f) r) ≡ positions r
  unmoved_u f r = map-map at (move_u f) r

  unmoved_v : (f : Float → Float) (r : Corners A) → positions (map (move_v f) r) ≡ positions r
  unmoved_v f r = map-map at (move_v f) r

  -- ---- a ring turned

  turn_if : (t : Bool) (k : ℕ) (xs : List A) → Turn xs (cond t xs (turned unchanged k xs))
  turn_if true k xs = inl refl
  turn_if false k xs = inr (k, refl)

  unless_turn : (few k : ℕ) (xs : List A) → Turn xs (turned_unless few unchanged k xs)
  unfolding turned_unless
  unless_turn few k xs = turn_if (eqb k 0 || ltb (length xs) few) k xs

  align_turn : (k : ℕ) (xs : List A) → Turn xs (align_at unchanged unchanged k xs)
  unfolding align_at turned_onto turned
  align_turn k xs =
      subst (λ (ys : List A). Turn xs (cond (ltb (length xs) 3) xs (closed unchanged ys))) (sym (map-unchanged (begun unchanged k _)))
      (turn_if (ltb (length xs) 3) k xs)

  -- two turns are one
  turn_on : (xs ys zs : List A) → Turn xs ys → Turn ys zs → Turn xs zs
  turn_on xs ys zs (inl e) t = subst (λ (l : List A). Turn l zs) e t
  turn_on xs ys zs (inr (k, e)) (inl d) = inr (k, d ∙ e)
  turn_on xs ys zs (inr (k, e)) (inr (j, d)) =
      let once = turned_twice j k xs in inr (once.0, d ∙ ap (turned unchanged j) e ∙ once.1)

  -- a turn of a ring whose ends meet has its counts
  module _ (same : A → A → Bool) (P : PartialEquivalence same) where
    net_turn : (a b : A) (xs ys : List A) → Turn xs ys → ends_meet same xs ≡ true → net same a b ys ≡ net same a b xs
    net_turn a b xs ys (inl e) h = ap (net same a b) e
    net_turn a b xs ys (inr (k, e)) h = ap (net same a b) e ∙ net-turned same P a b k xs h

    ring_meets : (l : Loop A) → ends_meet same (positions l.corners) ≡ true → ends_meet same (ring l) ≡ true
    unfolding ring
    ring_meets l h = at-travel l.falls
      where
        at-travel : (t : Bool) → ends_meet same (cond t (reverse (positions l.corners)) (positions l.corners)) ≡ true
        at-travel true = ends_reverse same P (positions l.corners) h
        at-travel false = h

  rising_is : (l : Loop A) → positions (rising l) ≡ ring l
  unfolding rising ring
  rising_is l = map-cond at l.falls (reverse l.corners) l.corners ∙ ap (λ (xs : List A). cond l.falls xs (positions l.corners)) (map-reverse at l.corners)

-- ---- rings and holes up to the strip

module _ {A : Type 0} (period : Float) where
  laid_first : (given : Given A) → positions (laid period given).first ≡ ring given.first
  unfolding laid shifted
  laid_first given = unmoved_u _ (rising given.first) ∙ rising_is given.first

  laid_later : (given : Given A) → positions (laid period given).later ≡ ring given.later
  unfolding laid shifted
  laid_later given = unmoved_u _ (rising given.later) ∙ rising_is given.later

  -- `reseam` leaves a ring or cuts it anew
  recuts_turn : (cut : Float) (r : Corners A) → Turn (positions r) (positions (recut period cut r))
  recuts_turn cut r =
      let k = first_open_past cut (us r) in
      let turned : positions (recut period cut r) ≡ recut_at unchanged k (positions r) =
      ap positions (recut_is cut r period) ∙ map-recut_at at (raised period) unchanged (λ c. refl) k r in
      subst (Turn (positions r)) (sym turned) (unless_turn 2 k (positions r))

  reseam_turn : (part : Face A → Corners A) (face : Face A) → part (on_strip period face) ≡ part face
      → part (cut_anew period face) ≡ recut period (gap_of period face).cut (part face) → Turn (positions (part face)) (positions (part (reseam period face)))
  unfolding reseam
  reseam_turn part face e d = outcome (has_strip period face) (across_seam period face) (has_gap period face)
    where
      kept : Turn (positions (part face)) (positions (part (on_strip period face)))
      kept = inl (ap positions e)

      anew : Turn (positions (part face)) (positions (part (cut_anew period face)))
      anew = subst (λ (r : Corners A). Turn (positions (part face)) (positions r)) (sym d) (recuts_turn (gap_of period face).cut (part face))

      outcome : (s t b : Bool)
          → Turn (positions (part face)) (positions (part (cond s (cond t (cond b (cut_anew period face) (on_strip period face)) (on_strip period face)) face)))
      outcome false t b = inl refl
      outcome true false b = kept
      outcome true true false = kept
      outcome true true true = anew

  -- what a corner keeps when it is moved in u, no step changes in a hole
  module _ {B : Type 0} (part : Corner A → B) (kept : (f : Float → Float) (c : Corner A) → part (move_u f c) ≡ part c) where
    onto_is : (lo : Float) (hole : Corners A) → map part (onto period lo hole) ≡ map part hole
    unfolding onto
    onto_is lo hole = map-unless_zero part _ unchanged (kept _) _ hole ∙ unless_unchanged _ (map part hole)

    ontos_are : (lo : Float) (hs : List (Corners A)) → map (map part) (map (onto period lo) hs) ≡ map (map part) hs
    ontos_are lo [] = refl
    ontos_are lo (h ∷ hs) = λ i. onto_is lo h i ∷ ontos_are lo hs i

    reseam-holes : (face : Face A) → map (map part) (reseam period face).holes ≡ map (map part) face.holes
    unfolding reseam on_strip cut_anew
    reseam-holes face = outcome (has_strip period face) (across_seam period face) (has_gap period face)
      where
        on : map (map part) (on_strip period face).holes ≡ map (map part) face.holes
        on = ontos_are (seam period face) face.holes

        outcome : (s t b : Bool)
            → map (map part) (cond s (cond t (cond b (cut_anew period face) (on_strip period face)) (on_strip period face)) face).holes ≡ map (map part) face.holes
        outcome false t b = refl
        outcome true false b = on
        outcome true true false = on
        outcome true true true = ontos_are (gap_of period face).cut (on_strip period face).holes ∙ on

  begun_turn : (k : ℕ) (r : Corners A) → Turn (positions r) (positions (begin_ring_at (raised period) k r))
  begun_turn k r =
      subst (Turn (positions r)) (sym (map-begin_ring_at at (raised period) unchanged (λ c. refl) k r)) (unless_turn 4 k (positions r))

  aligned_turn : (cut : Float) (r : Corners A) → Turn (positions r) (positions (slide_to_cut period cut (align_cuts period cut r)))
  unfolding slide_to_cut align_cuts
  aligned_turn cut r =
      subst (Turn (positions r))
      (sym (map-unless_zero at _ unchanged (λ c. refl) _ (align_cuts period cut r) ∙ unless_unchanged _ (positions (align_cuts period cut r))
      ∙ map-align_at at (raised period) unchanged (λ c. refl) _ unchanged (λ c. refl) (nearest period cut (us r)) r))
      (align_turn (nearest period cut (us r)) (positions r))

-- ---- the strip

module _ {A : Type 0} (S : Setting A) where
  abbrev wall_of : Corner A → Corner A → List A
  wall_of l u = map (S.point_at l.u) (heights S.rungs S.steps l.v u.v)

  wall_is : (begin u : Float) (vs : List Float) → positions (wall S begin u vs) ≡ map (S.point_at begin) vs
  wall_is begin u vs = map-map at (λ v. record { u = u; v = v; at = S.point_at begin v }) vs

  strip_walls : (l : Corner A) (L : Corners A) (u : Corner A) (U : Corners A)
      → positions (strip S (l ∷ L) (u ∷ U))
      ≡ positions (l ∷ L) ++ (l.at ∷ wall_of l u) ++ (u.at ∷ reverse (positions (u ∷ U))) ++ reverse (wall_of l u)
  unfolding strip
  strip_walls l L u U =
      in_four (l ∷ L) (corner end l.v l.at ∷ wall S l.u end up) (corner end u.v u.at ∷ reverse (u ∷ U)) (reverse (wall S l.u l.u up))
      ∙ (λ i. positions (l ∷ L) ++ (l.at ∷ wall_is l.u end up i) ++ (u.at ∷ map-reverse at (u ∷ U) i) ++ back i)
    where
      end : Float
      end = l.u ⊕ S.period

      up : List Float
      up = heights S.rungs S.steps l.v u.v

      corner : Float → Float → A → Corner A
      corner u v a = record { u = u; v = v; at = a }

      in_four : (a b c d : Corners A) → positions (a ++ b ++ c ++ d) ≡ positions a ++ positions b ++ positions c ++ positions d
      in_four a b c d = simp map-append

      back : positions (reverse (wall S l.u l.u up)) ≡ reverse (wall_of l u)
      back = map-reverse at (wall S l.u l.u up) ∙ ap reverse (wall_is l.u l.u up)

  -- ---- the band

  outer_is : (given : Given A) → positions (outer S given) ≡ drop_repeats S.same (positions (strip_of S given))
  unfolding outer
  outer_is given = map-drop_repeats at S.same keep (λ kept x. refl) (strip_of S given)

  -- holes are moved in u alone
  pub holes-keep : {B : Type 0} (part : Corner A → B) → ((f : Float → Float) (c : Corner A) → part (move_u f c) ≡ part c) → (given : Given A)
      → map (map part) (holes S given) ≡ map (map part) given.holes
  unfolding holes joined started trial laid
  holes-keep part kept given = reseam-holes S.period part kept (laid S.period given)

  pub holes_are : (given : Given A) → map positions (holes S given) ≡ map positions given.holes
  holes_are = holes-keep at (λ f c. refl)

  pub holes-counts : (given : Given A) → map length (holes S given) ≡ map length given.holes
  holes-counts given = sym (lengths_each at (holes S given)) ∙ ap (map length) (holes_are given) ∙ lengths_each at given.holes

  pub holes_as_many : (given : Given A) → length (holes S given) ≡ length given.holes
  holes_as_many given = sym (length-map (holes S given) length) ∙ ap length (holes-counts given) ∙ length-map given.holes length

  module _ (given : Given A) where
    first_turn : Turn (ring given.first) (positions (joined S given).first)
    unfolding joined started trial on_strip cut_anew
    first_turn =
        let f = laid S.period given in
        let g = reseam S.period f in
        let cut = subst (λ (xs : List A). Turn xs (positions g.first)) (laid_first S.period given) (reseam_turn S.period (λ (x : Face A). x.first) f refl refl) in
        turn_on _ _ _ cut (begun_turn S.period (start S.period g.first g.later) g.first)

    later_turn : Turn (ring given.later) (positions (joined S given).later)
    unfolding joined started trial on_strip cut_anew
    later_turn =
        let f = laid S.period given in
        let g = reseam S.period f in
        let cut = subst (λ (xs : List A). Turn xs (positions g.later)) (laid_later S.period given) (reseam_turn S.period (λ (x : Face A). x.later) f refl refl) in
        turn_on _ _ _ cut (aligned_turn S.period (first_of (us (begin_ring_at (raised S.period) (start S.period g.first g.later) g.first))) g.later)

    pick_turn : (t : Bool) → Turn (ring (pick_loop t given)) (positions (pick t (joined S given)))
    pick_turn true = first_turn
    pick_turn false = later_turn

    lower_turn : Turn (ring (lower S given)) (positions (lower_ring S given))
    unfolding lower_ring
    lower_turn = pick_turn (lower_first S given)

    upper_turn : Turn (ring (upper S given)) (positions (upper_ring S given))
    unfolding upper_ring
    upper_turn =
        subst (Turn (ring (upper S given))) (sym (unmoved_v _ (pick (not (lower_first S given)) (joined S given)))) (pick_turn (not (lower_first S given)))

  -- ---- the rings have points

  some_map : (f : Corner A → Corner A) (r : Corners A) → 0 < length r → 0 < length (map f r)
  some_map f r h = rw (length-map r f) h

  module _ (given : Given A) (some₁ : 0 < length given.first.corners) (some₂ : 0 < length given.later.corners) where
    some_picked : (t : Bool) → 0 < length (pick t (joined S given))
    unfolding joined
    some_picked true = let e = length-first S.period given in omega arith
    some_picked false = let e = length-later S.period given in omega arith

    some_lower : 0 < length (lower_ring S given)
    unfolding lower_ring
    some_lower = some_picked (lower_first S given)

    some_upper : 0 < length (upper_ring S given)
    unfolding upper_ring
    some_upper = some_map _ (pick (not (lower_first S given)) (joined S given)) (some_picked (not (lower_first S given)))

-- ---- demand 3

-- a list that has a first
head_tail : {B : Type 0} (xs : List B) → 0 < length xs → (x : B) × ((rest : List B) × (xs ≡ x ∷ rest))
head_tail [] h = absurd (omega arith)
head_tail (x ∷ rest) h = (x, (rest, refl))

module _ {A : Type 0} (S : Setting A) (P : PartialEquivalence S.same) (given : Given A) where
  meets : Whole S given → (t : Bool) → ends_meet S.same (positions (pick_loop t given).corners) ≡ true
  meets w true = w.first_meets
  meets w false = w.later_meets

  abbrev steps : A → A → List A → ℤ
  steps a b xs = net S.same a b xs

  turned-steps : (a b : A) (l : Loop A) (ys : List A) → ends_meet S.same (positions l.corners) ≡ true → Turn (ring l) ys → steps a b ys ≡ steps a b (ring l)
  turned-steps a b l ys h t = net_turn S.same P a b (ring l) ys t (ring_meets S.same P l h)

  -- the counts of a strip whose rings are turns of those given
  strip-steps : Whole S given → (a b : A) (l : Corner A) (L : Corners A) (u : Corner A) (U : Corners A)
      → Turn (ring (lower S given)) (positions (l ∷ L)) → Turn (ring (upper S given)) (positions (u ∷ U))
      → steps a b (positions (strip S (l ∷ L) (u ∷ U))) ≡ steps a b (ring (lower S given)) +ℤ steps a b (reverse (ring (upper S given)))
  strip-steps w a b l L u U low up =
      ap (steps a b) (strip_walls S l L u U)
      ∙ net-strip S.same a b l.at (positions L) (wall_of S l u) u.at (positions U)
      ∙ (λ i. turned-steps a b (lower S given) (positions (l ∷ L)) (meets w (lower_first S given)) low i +ℤ back i)
    where
      back : steps a b (reverse (positions (u ∷ U))) ≡ steps a b (reverse (ring (upper S given)))
      back =
          net-reverse S.same a b (positions (u ∷ U))
          ∙ ap neg_ℤ (turned-steps a b (upper S given) (positions (u ∷ U)) (meets w (not (lower_first S given))) up)
          ∙ sym (net-reverse S.same a b (ring (upper S given)))

  stripped : (l : Corner A) (L : Corners A) (u : Corner A) (U : Corners A) → lower_ring S given ≡ l ∷ L → upper_ring S given ≡ u ∷ U
      → positions (strip_of S given) ≡ positions (strip S (l ∷ L) (u ∷ U))
  unfolding strip_of
  stripped l L u U le ue = λ i. positions (strip S (le i) (ue i))

  pub demand3 : Whole S given → Demand3 S given (positions (outer S given)) (map positions (holes S given))
  demand3 w =
      claim (head_tail (lower_ring S given) (some_lower S given w.some_first w.some_later))
      (head_tail (upper_ring S given) (some_upper S given w.some_first w.some_later))
    where
      First : Corners A → Type 0
      First r = (c : Corner A) × ((rest : Corners A) × (r ≡ c ∷ rest))

      claim : First (lower_ring S given) → First (upper_ring S given) → Demand3 S given (positions (outer S given)) (map positions (holes S given))
      claim (l, (L, le)) (u, (U, ue)) = record {
        l = l;
        L = L;
        lower_is = le;
        u = u;
        U = U;
        upper_is = ue;
        W = wall_of S l u;
        wall_is = refl;
        strip_is = strip_of_lem ∙ strip_walls S l L u U;
        outer_is = outer_is S given;
        holes_are = holes_are S given;
        lower_turned = low;
        upper_turned = up;
        counts = λ a b.
            ap (steps a b) (outer_is S given) ∙ net-drop_repeats S.same P a b (positions (strip_of S given))
            ∙ ap (steps a b) strip_of_lem ∙ strip-steps w a b l L u U low up;
      }
        where
          strip_of_lem : positions (strip_of S given) ≡ positions (strip S (l ∷ L) (u ∷ U))
          strip_of_lem = stripped l L u U le ue

          low : Turn (ring (lower S given)) (positions (l ∷ L))
          low = subst (λ (r : Corners A). Turn (ring (lower S given)) (positions r)) le (lower_turn S given)

          up : Turn (ring (upper S given)) (positions (u ∷ U))
          up = subst (λ (r : Corners A). Turn (ring (upper S given)) (positions r)) ue (upper_turn S given)
