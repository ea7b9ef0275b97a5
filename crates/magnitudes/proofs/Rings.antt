-- How far the u of a band's rings and holes go. Each step moves them by a bounded amount, so a bound that holds of the face record's u grows by a known
-- amount at each step: from 64 to 645 for the rings, and to 1,000 for the holes. What a shift by whole turns leaves is known where its operands are at most 1,000, and all are.
use Prim.Native.Nat.{ℕ, zero, suc, ◌+◌, ◌-◌, ◌^◌, ◌≤◌, ◌<◌}
use mathlib.Core.Path.{◌≡◌, refl, sym, ap, ◌∙◌, subst}
use mathlib.Core.Bool.{Bool, true, false, cond, ◌||◌}
use mathlib.Core.List.{List, [], ◌∷◌, ◌++◌, map, reverse, drop_last}
use native.Mathlib.Omega.{arith}
use borrow.Author.Tests.{ltb-false}
use lib.Dec.{ltb, eqb, lit<, lit≤}
use lib.ListN.{length, get_or, take, drop, length-map, length-reverse}
use lib.Seq.{drop-cons, get_or-take}
use lib.Ieee.{Float, nan, binary64, lt, ne}
use lib.Ieee.Fits.{add-fits, sub-fits, mul-fits}
use Rattle.numbers.specs.Constants.{plus_zero, half, TAU}
use Rattle.numbers.specs.Rounded.{◌⊕◌, ◌⊖◌}
use Rattle.numbers.specs.Within.{Within}
use Rattle.numbers.proofs.Fractions.{turn_within}
use Rattle.numbers.proofs.Magnitude.{held_small, within_more, add_within, sub_within, max_within, half_within}
use Rattle.lists.proofs.Elements.{get_d_map, length-drop_last, drop_last-take}
use Rattle.loops.specs.Branch.{branch_shift}
use Rattle.loops.specs.Rings.{begun, closed, turned}
use Rattle.loops.specs.Span.{least_of, greatest_of}
use Rattle.rings.specs.Choices.{least_u, first_of, first_open_past, first_least, strip_shift, nearest, offset}
use Rattle.tables.specs.Moves.{unless_zero}
use Rattle.rings.specs.Turns.{turned_unless, begin_ring_at, recut_at, turned_onto, align_at}
use Rattle.rings.proofs.Lengths.{length-begin_ring_at, length-recut_at, length-align_at}
use Rattle.seam.specs.declared.gap.Span.{Span}
use Rattle.seam.specs.Gap.{span_of, insert, sorted, passed, gap_along, widest_gap}
use Rattle.seam.specs.declared.gap.Gap.{Gap}
use Rattle.tables.specs.Corners.{Corner, Corners, us, move_u}
use Rattle.bands.specs.Given.{Loop, Given}
use Rattle.bands.specs.Rings.{Face, rising, shifted, laid, seam, onto, on_strip, gap_of, recut, cut_anew, has_strip, across_seam, has_gap, reseam, trial, started}
use Rattle.rings.specs.Starts.{less_u, raised, align_cuts, slide_to_cut}
use Rattle.bands.proofs.Recut.{at_open_point, recut_is}
use Rattle.lists.specs.Elements.{All, none, and}
use Rattle.call.proofs.Each.{all_in, all_append, all_drop_last, all_reverse, all_if, all_map, all_so, all_begun, all_closed, all_recut_at}
use Rattle.magnitudes.proofs.Loops.{Known, known_more, pick_known, min_known, least_known, greatest_known, branch_within, landed_apart, strip-shift_within}

-- ---- loops with corners, whose u are at most B

module _ {A : Type 0} where
  abbrev U : ℕ → Corner A → Type 0
  U B c = Known B c.u

  pub record Reach (B : ℕ) (r : Corners A) : Type 0 where
    pub some : 0 < length r
    pub each : All (U B) r

  reach_more : (B C : ℕ) (r : Corners A) → B ≤ C → Reach B r → Reach C r
  reach_more B C r l h = record { some = h.some; each = all_so (λ c w. known_more w C l) h.each }

  module _ (B : ℕ) (r : Corners A) (h : Reach B r) where
    us_each : All (Known B) (us r)
    us_each = all_map (λ (c : Corner A). c.u) (λ c w. w) h.each

    us_some : 0 < length (us r)
    us_some = let e = length-map r (λ (c : Corner A). c.u) in let s = h.some in omega arith

    u-at : (k : ℕ) → k < length r → Known B (get_or (us r) k nan)
    u-at k l = all_in us_each k nan (let e = length-map r (λ (c : Corner A). c.u) in omega arith)

    first_reach : Known B (first_of (us r))
    first_reach = u-at 0 h.some

    least_reach : Known B (least_of (us r))
    least_reach = least_known B us_each us_some

    greatest_reach : Known B (greatest_of (us r))
    greatest_reach = greatest_known B us_each us_some

  -- ---- moved by a step of at most S

  module _ (B S : ℕ) (few : B + S < 2 ^ 53) (step : Float) (w : Within S step) where
    less_in : (c : Corner A) → U B c → U (B + S) (less_u step c)
    less_in c h = record { within = sub_within B S c.u step (held_small (B + S) few) h.within w; fits = sub-fits binary64 c.u step }

    up_in : (c : Corner A) → U B c → U (B + S) (move_u (λ u. u ⊕ step) c)
    up_in c h = record { within = add_within B S c.u step (held_small (B + S) few) h.within w; fits = add-fits binary64 c.u step }

    stays_in : (c : Corner A) → U B c → U (B + S) c
    stays_in c h = known_more h (B + S) (omega arith)

    module _ (f : Corner A → Corner A) (to : (c : Corner A) → U B c → U (B + S) (f c)) (r : Corners A) (h : Reach B r) where
      moved_reach : Reach (B + S) (map f r)
      moved_reach = record { some = (let e = length-map r f in let s = h.some in omega arith); each = all_map f to h.each }

      unless_reach : Reach (B + S) (unless_zero step f r)
      unfolding unless_zero
      unless_reach = go (ne step plus_zero)
        where
          go : (t : Bool) → Reach (B + S) (cond t (map f r) r)
          go true = moved_reach
          go false = reach_more B (B + S) r (omega arith) h

  -- what comes round is raised by the period
  module _ (B : ℕ) (few : B + 7 < 2 ^ 53) where
    begun_in : (k : ℕ) {r : Corners A} → All (U B) r → All (U (B + 7)) (begun (raised TAU) k r)
    begun_in k h = all_begun (raised TAU) (stays_in B 7 few TAU turn_within) (up_in B 7 few TAU turn_within) k h

    closed_in : {r : Corners A} → All (U B) r → All (U (B + 7)) (closed (raised TAU) r)
    closed_in h = all_closed (raised TAU) (stays_in B 7 few TAU turn_within) (up_in B 7 few TAU turn_within) h

-- ---- the widest gap lies where the holes and the strip lie

module _ (M : ℕ) (few : M < 2 ^ 52) where
  record SpanIn (s : Span) : Type 0 where
    low : Within M s.low
    high : Within M s.high

  record GapIn (g : Gap) : Type 0 where
    reach : Within M g.reach
    cut : Known M g.cut

  insert_each : (s : Span) {ts : List Span} → SpanIn s → All SpanIn ts → All SpanIn (insert s ts)
  unfolding insert
  insert_each s h none = and h none
  insert_each s h (and {a} {l} t ts) = all_if (lt a.low s.low) (and t (insert_each s h ts)) (and h (and t ts))

  sorted_each : {ss : List Span} → All SpanIn ss → All SpanIn (sorted ss)
  unfolding sorted
  sorted_each none = none
  sorted_each (and {a} h hs) = insert_each a h (sorted_each hs)

  passed_in : (g : Gap) (s : Span) → GapIn g → SpanIn s → GapIn (passed g s)
  unfolding passed
  passed_in g s h k = record {
    reach = max_within M g.reach s.high h.reach k.high;
    cut = pick_known (lt g.width (s.low ⊖ g.reach))
        (record {
          within = half_within M (g.reach ⊕ s.low) (held_small M (omega arith)) (add_within M M g.reach s.low (held_small (M + M) (omega arith)) h.reach k.low);
          fits = mul-fits binary64 (g.reach ⊕ s.low) half;
        })
        h.cut;
  }

  fold_in : (g : Gap) {ss : List Span} → GapIn g → All SpanIn ss → GapIn (mathlib.Core.List.foldl passed g ss)
  fold_in g h none = h
  fold_in g h (and {a} k ks) = fold_in (passed g a) (passed_in g a h k) ks

  gap_in : (lo hi : Float) {ss : List Span} → Known M lo → Within M hi → All SpanIn ss → GapIn (widest_gap lo hi ss)
  unfolding widest_gap gap_along
  gap_in lo hi p q h = fold_in (record { reach = lo; width = plus_zero; cut = lo }) (record { reach = p.within; cut = p }) (all_append (sorted_each h) (and (record { low = q; high = q }) none))

-- ---- which of the open points is nearest to the cut: one of them

least-place : (xs : List Float) (n : ℕ) → first_least xs (suc n) ≤ n
unfolding first_least
least-place xs zero = go (lt (get_or xs 0 nan) (get_or xs 0 nan))
  where
    go : (t : Bool) → cond t 0 0 ≤ 0
    go true = omega arith
    go false = omega arith
least-place xs (suc n) = go (lt (get_or xs (suc n) nan) (get_or xs (first_least xs (suc n)) nan)) (least-place xs n)
  where
    go : (t : Bool) → first_least xs (suc n) ≤ n → cond t (suc n) (first_least xs (suc n)) ≤ suc n
    go true h = omega arith
    go false h = omega arith

least_before : (xs : List Float) (n : ℕ) → 0 < n → first_least xs n < n
least_before xs zero p = absurd (omega arith)
least_before xs (suc n) p = let h = least-place xs n in omega arith

nearest-place : (cut : Float) (us : List Float) → 2 ≤ length us → nearest TAU cut us < length us - 1
unfolding nearest
nearest-place cut us long =
    let offsets = map (offset TAU cut) (drop_last us) in
    let e = length-map (drop_last us) (offset TAU cut) in
    let f = length-drop_last us in
    let h = least_before offsets (length offsets) (omega arith) in
    omega arith

-- a ring put on a branch begins with the point at which it is turned
turned-first : {A : Type 0} (again put : A → A) (k : ℕ) (xs : List A) (z : A) → k < length xs - 1 → (rest : List A) × (turned_onto again put k xs ≡ put (get_or xs k z) ∷ rest)
unfolding turned_onto begun closed
turned-first {A} again put k xs z h =
    let ys = drop_last xs in
    let x = get_or ys k z in
    let some = length-drop_last xs in
    let same : x ≡ get_or xs k z = ap (λ (l : List A). get_or l k z) (drop_last-take xs) ∙ get_or-take (length xs - 1) xs k z h in
    let split : drop k ys ≡ x ∷ drop (suc k) ys = drop-cons ys k z (omega arith) in
    let on : List A → List A = λ l. closed again (map put (l ++ map again (take k ys))) in
    (_, ap on split ∙ ap (λ (y : A). on (y ∷ drop (suc k) ys)) same)

-- ---- the steps of a band, in order

module _ {A : Type 0} where
  -- the rings' u are at most R, the holes' at most H
  pub record Reaches (R H : ℕ) (f : Face A) : Type 0 where
    pub first : Reach R f.first
    pub later : Reach R f.later
    pub holes : All (Reach H) f.holes

  face_if : (R H : ℕ) (t : Bool) {f g : Face A} → Reaches R H f → Reaches R H g → Reaches R H (cond t f g)
  face_if R H true p q = p
  face_if R H false p q = q

  reaches_more : (R H R' H' : ℕ) (f : Face A) → R ≤ R' → H ≤ H' → Reaches R H f → Reaches R' H' f
  reaches_more R H R' H' f l m h = record {
    first = reach_more R R' f.first l h.first;
    later = reach_more R R' f.later l h.later;
    holes = all_so (λ r k. reach_more H H' r m k) h.holes;
  }

  pub record GivenReach (B : ℕ) (g : Given A) : Type 0 where
    pub first : Reach B g.first.corners
    pub later : Reach B g.later.corners
    pub holes : All (Reach B) g.holes

  -- shifted toward the least u, by at most 132
  rising_reach : (B : ℕ) (l : Loop A) → Reach B l.corners → Reach B (rising l)
  unfolding rising
  rising_reach B l h = go l.falls
    where
      go : (t : Bool) → Reach B (cond t (reverse l.corners) l.corners)
      go true = record { some = (let e = length-reverse l.corners in let s = h.some in omega arith); each = all_reverse h.each }
      go false = h

  shifted_reach : (least : Float) (r : Corners A) → Known 64 least → Reach 64 r → Reach 196 (shifted TAU least r)
  unfolding shifted
  shifted_reach least r w h =
      let step = branch_shift (first_of (us r)) least TAU in
      let far : Within 132 step = branch_within 64 64 (lit≤ tt) (lit≤ tt) (first_of (us r)) least (first_reach 64 r h) w in
      moved_reach 64 132 (lit< tt) step far (less_u step) (less_in 64 132 (lit< tt) step far) r h

  laid_reach : (g : Given A) → GivenReach 64 g → Reaches 196 64 (laid TAU g)
  unfolding laid least_u
  laid_reach g h =
      let least = least_u (us g.first.corners) (us g.later.corners) in
      let w : Known 64 least = min_known (least_reach 64 g.first.corners h.first) (least_reach 64 g.later.corners h.later) in
      record {
        first = shifted_reach least (rising g.first) w (rising_reach 64 g.first h.first);
        later = shifted_reach least (rising g.later) w (rising_reach 64 g.later h.later);
        holes = h.holes;
      }

  seam_reach : (R H : ℕ) (f : Face A) → Reaches R H f → Known R (seam TAU f)
  unfolding least_u
  seam_reach R H f h = min_known (least_reach R f.first h.first) (least_reach R f.later h.later)

  -- a hole onto the strip from lo on
  onto_reach : (B C : ℕ) → B ≤ 1000 → C ≤ 1000 → (lo : Float) → Known C lo → (hole : Corners A) → Reach B hole → Reach (B + (B + C + 7)) (onto TAU lo hole)
  unfolding onto
  onto_reach B C b c lo w hole h =
      let step = strip_shift TAU lo (us hole) in
      let far : Within (B + C + 7) step = strip-shift_within B C b c lo w (us_each B hole h) (us_some B hole h) in
      let few : B + (B + C + 7) < 2 ^ 53 = omega arith in
      unless_reach B (B + C + 7) few step far (less_u step) (less_in B (B + C + 7) few step far) hole h

  on-strip_reach : (f : Face A) → Reaches 196 64 f → Reaches 196 331 (on_strip TAU f)
  unfolding on_strip
  on-strip_reach f h = record {
    first = h.first;
    later = h.later;
    holes = all_map (onto TAU (seam TAU f)) (onto_reach 64 196 (lit≤ tt) (lit≤ tt) (seam TAU f) (seam_reach 196 64 f h)) h.holes;
  }

  -- the new cut
  cut_reach : (f : Face A) → Reaches 196 64 f → Known 331 (gap_of TAU f).cut
  unfolding gap_of
  cut_reach f h =
      let lo = seam TAU f in
      let low : Known 196 lo = seam_reach 196 64 f h in
      let high : Within 203 (lo ⊕ TAU) = add_within 196 7 lo TAU (held_small 203 (lit< tt)) low.within turn_within in
      (gap_in 331 (lit< tt) lo (lo ⊕ TAU) (known_more low 331 (lit≤ tt)) (within_more 203 331 (lo ⊕ TAU) (lit≤ tt) high)
      (all_map (λ (hole : Corners A). span_of (us hole)) (λ hole k. record { low = (least_reach 331 hole k).within; high = (greatest_reach 331 hole k).within }) (on-strip_reach f h).holes)).cut

  recut_reach : (cut : Float) (r : Corners A) → Reach 196 r → Reach 203 (recut TAU cut r)
  recut_reach cut r h = subst (Reach 203) (sym (recut_is cut r TAU)) reached
    where
      k : ℕ
      k = first_open_past cut (us r)

      reached : Reach 203 (recut_at (raised TAU) k r)
      reached = record {
        some = (let e = length-recut_at (raised TAU) k r in let s = h.some in omega arith);
        each = all_recut_at (raised TAU) (stays_in 196 7 (lit< tt) TAU turn_within) (up_in 196 7 (lit< tt) TAU turn_within) k r (at_open_point cut r) h.each;
      }

  cut_anew_reach : (f : Face A) → Reaches 196 64 f → Reaches 203 1000 (cut_anew TAU f)
  unfolding cut_anew
  cut_anew_reach f h =
      let cut = (gap_of TAU f).cut in
      record {
        first = recut_reach cut f.first h.first;
        later = recut_reach cut f.later h.later;
        holes = all_map (onto TAU cut) (onto_reach 331 331 (lit≤ tt) (lit≤ tt) cut (cut_reach f h)) (on-strip_reach f h).holes;
      }

  reseam_reach : (f : Face A) → Reaches 196 64 f → Reaches 203 1000 (reseam TAU f)
  unfolding reseam
  reseam_reach f h =
      let on = reaches_more 196 331 203 1000 (on_strip TAU f) (lit≤ tt) (lit≤ tt) (on-strip_reach f h) in
      face_if 203 1000 (has_strip TAU f)
      (face_if 203 1000 (across_seam TAU f) (face_if 203 1000 (has_gap TAU f) (cut_anew_reach f h) on) on)
      (reaches_more 196 64 203 1000 f (lit≤ tt) (lit≤ tt) h)

  -- begun at point k: what comes round is raised, and its first point once more where the ring is closed
  begin_reach : (k : ℕ) (r : Corners A) → Reach 203 r → Reach 217 (begin_ring_at (raised TAU) k r)
  unfolding turned_unless turned
  begin_reach k r h = record { some = (let e = length-begin_ring_at (raised TAU) k r in let s = h.some in omega arith); each = all }
    where
      all : All (U 217) (begin_ring_at (raised TAU) k r)
      all = all_if (eqb k 0 || ltb (length r) 4) (reach_more 203 217 r (lit≤ tt) h).each (closed_in 210 (lit< tt) (begun_in 203 (lit< tt) k (all_drop_last r h.each)))

  -- onto the branch of the cut, where the ring has three points or more
  module _ (cut : Float) (w : Known 217 cut) (r : Corners A) (h : Reach 203 r) where
    abbrev near : ℕ
    near = nearest TAU cut (us r)

    abbrev back : Float
    back = branch_shift (get_or (us r) near nan) cut TAU

    abbrev onto-cut : Corners A
    onto-cut = turned_onto (raised TAU) (less_u back) near r

    module _ (long : 3 ≤ length r) where
      near-place : near < length r - 1
      near-place =
          let e = length-map r (λ (c : Corner A). c.u) in
          let p = nearest-place cut (us r) (omega arith) in
          omega arith

      nearest-at : Known 203 (get_or (us r) near nan)
      nearest-at = let p = near-place in u-at 203 r h near (omega arith)

      back_in : Within 424 back
      back_in = branch_within 203 217 (lit≤ tt) (lit≤ tt) (get_or (us r) near nan) cut nearest-at w

      turned_each : All (U 641) onto-cut
      unfolding turned_onto
      turned_each = closed_in 634 (lit< tt) (all_map (less_u back) (less_in 210 424 (lit< tt) back back_in) (begun_in 203 (lit< tt) near (all_drop_last r h.each)))

      -- its first point is near the cut, and so the ring slides by at most 4
      first_there : first_of (us onto-cut) ≡ get_or (us r) near nan ⊖ back
      first_there = go r refl
        where
          go : (l : Corners A) → l ≡ r → first_of (us onto-cut) ≡ get_or (us r) near nan ⊖ back
          go [] e = absurd (let p = near-place in let q = ap length e in omega arith)
          go (z ∷ l) e =
              let t = turned-first (raised TAU) (less_u back) near r z near-place in
              let p = near-place in
              ap (λ (x : Corners A). first_of (us x)) t.1 ∙ ap (λ (u : Float). u ⊖ back) (sym (get_d_map (λ (c : Corner A). c.u) r near nan z (omega arith)))

      slide_few : Within 4 (cut ⊖ first_of (us onto-cut))
      slide_few = subst (λ (u : Float). Within 4 (cut ⊖ u)) (sym first_there) (landed_apart 203 217 (lit≤ tt) (lit≤ tt) (get_or (us r) near nan) cut nearest-at w)

    -- what `slide_to_cut` makes of a ring within B that begins at most S from the cut
    slid : (B S : ℕ) → B + S < 2 ^ 53 → (q : Corners A) → Within S (cut ⊖ first_of (us q)) → Reach B q → Reach (B + S) (slide_to_cut TAU cut q)
    unfolding slide_to_cut
    slid B S few q far k = unless_reach B S few (cut ⊖ first_of (us q)) far (move_u (λ u. u ⊕ (cut ⊖ first_of (us q)))) (up_in B S few (cut ⊖ first_of (us q)) far) q k

    later_reach : Reach 645 (slide_to_cut TAU cut (align_cuts TAU cut r))
    unfolding align_cuts align_at
    later_reach = go (ltb (length r) 3) refl
      where
        go : (t : Bool) → ltb (length r) 3 ≡ t → Reach 645 (slide_to_cut TAU cut (cond t r onto-cut))
        go true e =
            let far = sub_within 217 203 cut (first_of (us r)) (held_small 420 (lit< tt)) w.within (first_reach 203 r h).within in
            reach_more 623 645 _ (lit≤ tt) (slid 203 420 (lit< tt) r far h)
        go false e =
            let long = ltb-false (length r) 3 e in
            let same : length onto-cut ≡ length r = rw e at (length-align_at (raised TAU) (less_u back) near r) in
            let some : 0 < length onto-cut = omega arith in
            slid 641 4 (lit< tt) onto-cut (slide_few long) (record { some = some; each = turned_each long })

  trial_reach : (k : ℕ) (f : Face A) → Reaches 203 1000 f → Reaches 645 1000 (trial TAU k f)
  unfolding trial
  trial_reach k f h =
      let first = begin_ring_at (raised TAU) k f.first in
      let begin = begin_reach k f.first h.first in
      record {
        first = reach_more 217 645 first (lit≤ tt) begin;
        later = later_reach (first_of (us first)) (first_reach 217 first begin) f.later h.later;
        holes = h.holes;
      }

  pub started_reach : (g : Given A) → GivenReach 64 g → Reaches 645 1000 (started TAU (reseam TAU (laid TAU g)))
  unfolding started
  started_reach g h = trial_reach _ (reseam TAU (laid TAU g)) (reseam_reach (laid TAU g) (laid_reach g h))
