-- The rings and the holes that are taken from a face record are those of its band.
use Prim.Native.Nat.{ℕ, ◌+◌, ◌≤◌, ◌<◌, min}
use mathlib.Core.Path.{◌≡◌, sym, ap, ◌∙◌, subst}
use mathlib.Core.Bool.{Bool}
use mathlib.Core.List.{List, [], map, flatten}
use native.Mathlib.Omega.{arith}
use lib.Ieee.{Float}
use lib.ListN.{length, get_or, take, drop, length-map}
use Rattle.std.proofs.Common.{Option}
use Rattle.numbers.specs.declared.math.Vec3.{Vec3}
use Rattle.surfaces.specs.declared.patch.Patch.{Patch}
use Rattle.surfaces.specs.Domains.{u_period, period_length}
use Rattle.lists.specs.Pieces.{pieces}
use Rattle.lists.specs.Placed.{placed}
use Rattle.lists.specs.Places.{places}
use Rattle.lists.proofs.Elements.{get_d_map}
use Rattle.lists.proofs.Places.{length-places}
use Rattle.lists.proofs.Placed.{placed-fits, front-placed}
use Rattle.tables.specs.Corners.{Corners, us}
use Rattle.tables.specs.Rows.{rows}
use Rattle.tables.specs.declared.corners.Corner.{Corner as Held}
use Rattle.tables.proofs.Rows.{length-rows, rows_take}
use Rattle.loop_records.specs.declared.LoopRecord.{LoopRecord}
use Rattle.loop_records.specs.Record.{no_loop}
use Rattle.bands.specs.Columns.{setting_on}
use Rattle.bands.specs.Given.{Measured, Given, Loop, falls}
use Rattle.bands.specs.Strip.{Setting}
use Rattle.std.specs.Prelude.{Result}
use Rattle.strip.specs.declared.closing.Closed.{Closed}
use Rattle.strip.specs.declared.closing.TooMany.{TooMany}
use Rattle.laying.specs.Held.{given_in as held_in}
use Rattle.records.specs.Face as Record
use Rattle.records.specs.Limits.{version1}
use Rattle.records.proofs.Accepted.{points-sum}
use Rattle.records.proofs.Columns.{length-counts, length-corners}
use Rattle.call.specs.Face.{surface_in, loops_in, measured_in, setting_in, given_in}
use Rattle.call.proofs.Judged.{loop_in, none, corners_in_lem}
use Rattle.call.proofs.Loops.{loops_many, loops-total}
use Rattle.loops.specs.Wrap.{net_wrap}
use Rattle.measuring.proofs.RingsGiven.{first-given, later-given}
use Rattle.holes.specs.Others.{others}
use Rattle.holes.proofs.Others.{map-others, others_as_many}
use Rattle.filling.specs.Band.{BandIs}
use Rattle.filling.proofs.BandFace.{BandFace}
use Rattle.filling.proofs.Others.{others_many, total-length, pieces-front, pieces_long}
use Rattle.filling.proofs.Recorded.{corners_there, count_there, falls_there}
use Rattle.filling.proofs.TwoRings.{inside, apart, holes-given, points_parted}

module _ (s : List ℕ) (corners : List Held) (given : List ℕ) (loops : List LoopRecord) (patch : Patch) (sense : Bool) (a b : ℕ)
    (f : BandFace s corners given loops patch sense a b) where
  pub loops_held : pieces given (rows corners) ≡ loops_in s
  unfolding loops_in
  loops_held = λ i. pieces (f.given_is i) (f.corners_are i)

  pub many : length given ≡ length (loops_in s)
  many = ap length f.given_is ∙ length-counts s ∙ sym (loops_many s)

  pub few : length given ≤ 16
  few = let m = many in let n = loops_many s in let l = f.accepted.loops_are in omega arith

  pub counts_held : given ≡ map length (loops_in s)
  unfolding loops_in
  counts_held =
      let m = points-sum s in
      let n = length-corners s in
      f.given_is ∙ sym (pieces_long (Record.counts s) (Record.corners_in s) (omega arith))

  pub a_inside : a < length given
  a_inside = let i = inside s f.two a b f.first_is f.later_is in let m = many in omega arith

  pub b_inside : b < length given
  b_inside = let i = a_inside in let h = apart s f.two a b f.first_is f.later_is in omega arith

  pub hole_lists : others a b (pieces given (rows corners)) ≡ (given_in s).holes
  hole_lists = ap (others a b) loops_held ∙ sym (holes-given s f.two a b f.first_is f.later_is)

  pub hole-counts : others a b given ≡ map length (given_in s).holes
  hole-counts =
      ap (others a b) counts_held ∙ map-others a b length 0 (loops_in s) ∙ ap (map length) (sym (holes-given s f.two a b f.first_is f.later_is))

  pub holes-two_less : length (given_in s).holes + 2 ≡ length given
  holes-two_less =
      let e = ap length (holes-given s f.two a b f.first_is f.later_is) in
      let n = others_many [] a b (loops_in s) (apart s f.two a b f.first_is f.later_is) (inside s f.two a b f.first_is f.later_is) in
      let m = many in
      omega arith

  -- all points of rings and holes together
  pub points-few : length (flatten (given_in s).holes) + (length (given_in s).first.corners + length (given_in s).later.corners) ≤ version1.points
  points-few =
      let e = points_parted s f.two a b f.first_is f.later_is in
      let t = total-length (loops_in s) in
      let m = loops-total s in
      let p = f.accepted.total in
      omega arith

  -- ---- a ring

  module _ (k : ℕ) (h : k < length given) where
    ring-corners : take (get_or loops k no_loop).count (drop (get_or loops k no_loop).start (rows corners)) ≡ (loop_in s k).corners
    ring-corners =
        corners_there (u_period patch.surface) given (rows corners) loops f.loops_are few k h ∙ ap (λ (l : List (Corners Vec3)). get_or l k []) loops_held ∙ sym (corners_in_lem s k)

    ring-count : (get_or loops k no_loop).count ≡ length (loop_in s k).corners
    ring-count =
        count_there (u_period patch.surface) given (rows corners) loops f.loops_are few k h
        ∙ ap length (ap (λ (l : List (Corners Vec3)). get_or l k []) loops_held ∙ sym (corners_in_lem s k))

    ring-falls : falls (get_or loops k no_loop).travel ≡ falls (loop_in s k).wrap
    unfolding loop_in measured_in
    ring-falls =
        let m = many in
        falls_there (u_period patch.surface) given (rows corners) loops f.loops_are few k h
        ∙ (λ i. falls (net_wrap (u_period (f.patch_is i).surface) (us (get_or (loops_held i) k []))))
        ∙ sym (ap (λ (m : Measured Vec3). falls m.wrap) (get_d_map (λ (l : Corners Vec3). record { corners = l; wrap = net_wrap (u_period (surface_in s)) (us l) }) (loops_in s) k none [] (omega arith)))

    -- in the front of a table
    pub ring-taken : (one : LoopRecord) (d d' : List Held) (m : ℕ) → one ≡ get_or loops k no_loop → length d ≡ 512 → length (loop_in s k).corners ≤ version1.points
        → m ≡ min one.count version1.points → rows d' ≡ placed 0 (take one.count (drop one.start (rows corners))) (rows d)
        → rows (take m d') ≡ (loop_in s k).corners
    ring-taken one d d' m one_is long short m_is put =
        let w : Corners Vec3 = (loop_in s k).corners in
        let w_is : take one.count (drop one.start (rows corners)) ≡ w = ap (λ (q : LoopRecord). take q.count (drop q.start (rows corners))) one_is ∙ ring-corners in
        let count : one.count ≡ length w = ap (λ (q : LoopRecord). q.count) one_is ∙ ring-count in
        let room = length-rows d in
        let many : m ≡ length w = omega arith in
        ap (λ (j : ℕ). rows (take j d')) many ∙ rows_take (length w) d' ∙ ap (take (length w)) (put ∙ ap (λ (l : Corners Vec3). placed 0 l (rows d)) w_is)
        ∙ front-placed w (rows d) (omega arith)

    pub falls-taken : (one : LoopRecord) (t : Bool) → one ≡ get_or loops k no_loop → t ≡ falls one.travel → t ≡ falls (loop_in s k).wrap
    falls-taken one t one_is t_is = t_is ∙ ap (λ (q : LoopRecord). falls q.travel) one_is ∙ ring-falls

  -- ---- the holes

  abbrev hs : List (Corners Vec3)
  hs = (given_in s).holes

  pub counts-taken : (d d' : List ℕ) (r k : ℕ) → length d ≡ 16 → r ≡ length (others a b (places (length given))) → k ≡ min r 16 → d' ≡ placed 0 (others a b given) d → take k d' ≡ others a b given
  counts-taken d d' r k long r_is k_is put =
      let as_many : r ≡ length (others a b given) = r_is ∙ others_as_many a b 0 (places (length given)) given (length-places (length given)) in
      let e = ap length hole-counts ∙ length-map hs length in
      let n = holes-two_less in
      let m = few in
      let all : k ≡ length (others a b given) = omega arith in
      (λ i. take (all i) (put i)) ∙ front-placed (others a b given) d (omega arith)

  pub holes-taken : (d d' : List Held) → version1.points ≤ length (rows d) → rows d' ≡ placed 0 (flatten (others a b (pieces given (rows corners)))) (rows d) → pieces (others a b given) (rows d') ≡ hs
  holes-taken d d' room put =
      let p = points-few in
      (λ i. pieces (hole-counts i) ((put ∙ ap (λ (l : List (Corners Vec3)). placed 0 (flatten l) (rows d)) hole_lists ∙ placed-fits 0 (flatten hs) (rows d) (omega arith)) i))
      ∙ pieces-front hs (drop (0 + length (flatten hs)) (rows d))

  -- ---- the band

  setting_taken : (p : Option Float) (period : Float) → p ≡ u_period patch.surface → period ≡ period_length p → setting_on patch period sense ≡ setting_in s
  unfolding setting_in
  setting_taken p period p_is period_is =
      let e : period ≡ period_length (u_period (surface_in s)) = period_is ∙ ap period_length (p_is ∙ ap u_period (ap (λ (p : Patch). p.surface) f.patch_is)) in
      λ i. setting_on (f.patch_is i) (e i) (f.sense_is i)

  module _ (first later holes : List Held) (counts : List ℕ) (ff lf : Bool)
      (first_is : rows first ≡ (loop_in s a).corners) (later_is : rows later ≡ (loop_in s b).corners) (ff_is : ff ≡ falls (loop_in s a).wrap) (lf_is : lf ≡ falls (loop_in s b).wrap)
      (counts_are : counts ≡ others a b given) (holes_are : pieces (others a b given) (rows holes) ≡ hs) where
    given-taken : held_in first later ff lf (pieces counts (rows holes)) ≡ given_in s
    given-taken =
        let e : ◌≡◌ {A = Loop Vec3} (record { corners = rows first; falls = ff }) (given_in s).first = (λ i. record { corners = first_is i; falls = ff_is i }) ∙ sym (first-given s f.two a f.first_is) in
        let g : ◌≡◌ {A = Loop Vec3} (record { corners = rows later; falls = lf }) (given_in s).later = (λ i. record { corners = later_is i; falls = lf_is i }) ∙ sym (later-given s f.two b f.later_is) in
        let k : pieces counts (rows holes) ≡ hs = ap (λ (ns : List ℕ). pieces ns (rows holes)) counts_are ∙ holes_are in
        λ i. record { first = e i; later = g i; holes = k i }

    rings_short : length (rows first) + length (rows later) ≤ version1.points
    rings_short =
        let e = ap (λ (l : Loop Vec3). length l.corners) (first-given s f.two a f.first_is) in
        let g = ap (λ (l : Loop Vec3). length l.corners) (later-given s f.two b f.later_is) in
        let x = ap length first_is in
        let y = ap length later_is in
        let p = points-few in
        omega arith

    counts-few : length counts ≤ version1.loops
    counts-few =
        let e = ap length counts_are ∙ ap length hole-counts ∙ length-map hs length in
        let n = holes-two_less in
        let m = few in
        omega arith

    pub band-taken : (p : Option Float) (period : Float) (r : Result Closed TooMany) (t' holes' : List Held) → p ≡ u_period patch.surface → period ≡ period_length p
        → (length counts ≤ version1.loops → length (rows first) + length (rows later) ≤ version1.points
        → BandIs (setting_on patch period sense) (held_in first later ff lf (pieces counts (rows holes))) r t' (pieces counts (rows holes')))
        → BandIs (setting_in s) (given_in s) r t' (pieces (others a b given) (rows holes'))
    band-taken p period r t' holes' p_is period_is is =
        subst (λ (ns : List ℕ). BandIs (setting_in s) (given_in s) r t' (pieces ns (rows holes'))) counts_are
        (subst (λ (g : Given Vec3). BandIs (setting_in s) g r t' (pieces counts (rows holes'))) given-taken
        (subst (λ (S : Setting Vec3). BandIs S (held_in first later ff lf (pieces counts (rows holes))) r t' (pieces counts (rows holes'))) (setting_taken p period p_is period_is) (is counts-few rings_short)))

  -- the rings have no more corners than there are points
  pub first_short : length (loop_in s a).corners ≤ version1.points
  first_short = let e = ap (λ (l : Loop Vec3). length l.corners) (first-given s f.two a f.first_is) in let p = points-few in omega arith

  pub later_short : length (loop_in s b).corners ≤ version1.points
  later_short = let e = ap (λ (l : Loop Vec3). length l.corners) (later-given s f.two b f.later_is) in let p = points-few in omega arith

pub room_in : (d : List Held) → length d ≡ 512 → version1.points ≤ length (rows d)
room_in d long = let l = length-rows d in omega arith
