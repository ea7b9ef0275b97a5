-- How much of a distance a shift by whole turns leaves, and how far from the reference `nearest_branch` lands, in units of the least real.
-- A shift is worked out by a difference, a quotient, a whole number near it and a product; the value less the shift is one more difference. Of reals up to 1,000 the differences are below 2 ^ 11 and 2 ^ 12 in size, the quotient below 2 ^ 9 and the product below 2 ^ 11, and each is off accordingly.
use mathlib.Core.Path.{◌≡◌, refl, sym, subst}
use Prim.Native.Nat.{ℕ, ◌+◌, ◌*◌, ◌^◌, ◌≤◌, ◌<◌}
use native.Mathlib.Nat.{lt_of_lt_of_le, mul-pos, mul-le-mul_left, mul-le-mul_right}
use native.Mathlib.Omega.{arith}
use mathlib.Core.Bool.{Bool, true, false}
use lib.Dec.{T, lit<, lit≤}
use lib.Pow.{pow_pos}
use lib.IntN.{ℤ, pos, negsuc, neg_ℤ, nat_abs, ◌-ℤ◌}
use lib.Signed.{le_z}
use lib.Ieee.{Float, binary64, fits, le, of_bits}
use lib.Ieee.Fits.{div-fits}
use lib.Ieee.Scale.{finite}
use Rattle.numbers.specs.Constants.{plus_zero, TAU}
use Rattle.numbers.specs.Round.{round_away, floor_of}
use Rattle.numbers.specs.Rounded.{◌⊖◌, ◌⊗◌, ◌⊘◌}
use Rattle.numbers.specs.Units.{scale, units, distance, FiniteReal}
use Rattle.numbers.proofs.Integers.{Difference, difference_sub, difference_size, at_most, at_least}
use Rattle.numbers.proofs.Magnitude.{within_finite, within_more}
use Rattle.numbers.proofs.Monotone.{Positive, mul_comm_finite}
use Rattle.numbers.proofs.Units.{Counts, Counted, real-counts, counts-units, counts_within}
use Rattle.numbers.proofs.Errors.{Off, off_less, Approximates, Close, difference_error, quotient_error, product_error, WholeNear, round-near, floor-near}
use Rattle.loops.specs.Branch.{branch_shift, nearest_branch, turn_units, slack_units, Reached, left_over, LandsNear, LeavesHalf, LeavesTurn}

-- ---- the steps on whole numbers. Of each pair, X and X', the difference counts. U is how many units 1 is, and t how many a turn is. In half units the difference is off by at most 4 E, the quotient by E, the product by 4 E and the last difference by 8 E.
record Sizes (U E t : ℕ) : Type 0 where
  one : 0 < U
  small : E ≤ U
  least : 6 * U ≤ t
  most : t ≤ 7 * U

module _ {U E t : ℕ} (z : Sizes U E t) where
  -- the value X, the reference Y, and D for their difference
  record Apart (X X' Y Y' : ℕ) : Type 0 where
    x : (X ≤ 1000 * U) × (X' ≤ 1000 * U)
    y : (Y ≤ 1000 * U) × (Y' ≤ 1000 * U)

  module _ {X X' Y Y' : ℕ} (a : Apart X X' Y Y') where
    difference_close : Close 11 (X + Y') (X' + Y) U
    difference_close =
        let x = a.x in
        let y = a.y in
        let one = z.one in
        record { over = omega arith; under = omega arith }

    quotient_close : (D D' : ℕ) → Off (D * 1 + (X' + Y)) (D' * 1 + (X + Y')) (4 * E * 1) (4 * E * 1) → Close 9 D D' t
    quotient_close D D' d =
        let x = a.x in
        let y = a.y in
        let one = z.one in
        let small = z.small in
        let least = z.least in
        record { over = omega (arith, d.over); under = omega (arith, d.under) }

  -- Q for the quotient, and N for a whole number at most h halves over it and l halves under
  record Divided (h l X X' Y Y' D D' Q Q' N N' : ℕ) : Type 0 where
    apart : Apart X X' Y Y'
    d : Off (D * 1 + (X' + Y)) (D' * 1 + (X + Y')) (4 * E * 1) (4 * E * 1)
    q : Off (Q * t + D' * U) (Q' * t + D * U) (E * t) (E * t)
    n : Off (N * U + Q') (N' * U + Q) (h * U) (l * U)
    h_few : h ≤ 2
    l_few : l ≤ 2

  module _ {h l X X' Y Y' D D' Q Q' N N' : ℕ} (s : Divided h l X X' Y Y' D D' Q Q' N N') where
    -- N turns are so many halves of a turn over or under D
    turns : Off (t * N + 0 * N' + D') (t * N' + 0 * N + D) (h * t + 7 * E) (l * t + 7 * E)
    turns =
        let e : E * t ≤ E * (7 * U) = mul-le-mul_left E z.most in
        let o = mul-le-mul_right t s.n.over in
        let u = mul-le-mul_right t s.n.under in
        let q = s.q in
        off_less (t * N + 0 * N' + D') (t * N' + 0 * N + D) (h * t + 7 * E) (l * t + 7 * E) U z.one (record { over = omega (arith, q.over); under = omega (arith, q.under) })

    product_close : Close 11 (t * N + 0 * N') (t * N' + 0 * N) U
    product_close =
        let k = turns in
        let x = s.apart.x in
        let y = s.apart.y in
        let d = s.d in
        let a = mul-le-mul_right t s.h_few in
        let b = mul-le-mul_right t s.l_few in
        let one = z.one in
        let small = z.small in
        let most = z.most in
        record { over = omega arith; under = omega arith }

    -- P for the shift
    module _ (P P' : ℕ) (p : Off (P * 1 + (t * N' + 0 * N)) (P' * 1 + (t * N + 0 * N')) (4 * E * 1) (4 * E * 1)) where
      shift_leaves : Off (P + (X' + Y)) (P' + (X + Y')) (h * t + 15 * E) (l * t + 15 * E)
      shift_leaves = let k = turns in let d = s.d in record { over = omega arith; under = omega arith }

      rest_close : Close 12 (X + P') (X' + P) U
      rest_close =
          let k = shift_leaves in
          let x = s.apart.x in
          let y = s.apart.y in
          let a = mul-le-mul_right t s.h_few in
          let b = mul-le-mul_right t s.l_few in
          let one = z.one in
          let small = z.small in
          let most = z.most in
          record { over = omega arith; under = omega arith }

      -- R for the value less the shift
      rest_lands : (R R' : ℕ) → Off (R * 1 + (X' + P)) (R' * 1 + (X + P')) (8 * E * 1) (8 * E * 1) → Off (R + Y') (R' + Y) (l * t + 23 * E) (h * t + 23 * E)
      rest_lands R R' r = let k = shift_leaves in record { over = omega arith; under = omega arith }

-- ---- which whole number near a quotient is taken: at most h halves over it and l halves under
record Choice : Type 0 where
  whole : Float → Float
  h : ℕ
  l : ℕ
  h_few : h ≤ 2
  l_few : l ≤ 2
  near : (x : Float) (p q : ℕ) → T (fits binary64 x) → Counts scale x p q → WholeNear (whole x) p q (h * scale) (l * scale)

abbrev to-nearest : Choice
to-nearest = record { whole = round_away; h = 1; l = 1; h_few = lit≤ tt; l_few = lit≤ tt; near = round-near }

abbrev downward : Choice
downward = record { whole = floor_of; h = 0; l = 2; h_few = lit≤ tt; l_few = lit≤ tt; near = floor-near }

-- ---- the steps on reals
abbrev E : ℕ
E = 2 ^ 1030

module _ (period : Float) (t : ℕ) (above : Positive period) (c : Counts scale period t 0) (z : Sizes scale E t) (o : Choice) (x y : Float) (a : Counted x) (b : Counted y) where
  abbrev quotient : Float
  quotient = (x ⊖ y) ⊘ period

  abbrev shift : Float
  shift = period ⊗ o.whole quotient

  some : 0 < t
  some = lt_of_lt_of_le (mul-pos {m = 6} {n = scale} (lit< tt) z.one) z.least

  -- the shift, what it leaves of the distance, and where the value less the shift lands
  record Shifts : Type 0 where
    high : ℕ
    low : ℕ
    counts : Counts scale shift high low
    turned : o.whole quotient ⊗ period ≡ shift
    leaves : Off (high + (a.low + b.high)) (low + (a.high + b.low)) (o.h * t + 15 * E) (o.l * t + 15 * E)
    rest : Approximates (x ⊖ shift) (a.high + low) (a.low + high) 1 (8 * E)
    lands : Off (rest.high + b.low) (rest.low + b.high) (o.l * t + 23 * E) (o.h * t + 23 * E)

  module _ (apart : Apart z a.high a.low b.high b.low) where
    difference : Approximates (x ⊖ y) (a.high + b.low) (a.low + b.high) 1 (4 * E)
    difference = difference_error 11 (lit< tt) a.counts b.counts (difference_close z apart)

    module _ (d : Approximates (x ⊖ y) (a.high + b.low) (a.low + b.high) 1 (4 * E)) where
      divided : Approximates quotient (d.high * scale) (d.low * scale) t E
      divided = quotient_error 9 (lit< tt) d.counts c above some (quotient_close z apart d.high d.low d.off)

      module _ (q : Approximates quotient (d.high * scale) (d.low * scale) t E) (n : WholeNear (o.whole quotient) q.high q.low (o.h * scale) (o.l * scale)) where
        steps : Divided z o.h o.l a.high a.low b.high b.low d.high d.low q.high q.low n.high n.low
        steps = record { apart = apart; d = d.off; q = q.off; n = n.off; h_few = o.h_few; l_few = o.l_few }

        product : Approximates shift (t * n.high + 0 * n.low) (t * n.low + 0 * n.high) 1 (4 * E)
        product = product_error 11 (lit< tt) c n.counts (product_close z steps)

        module _ (p : Approximates shift (t * n.high + 0 * n.low) (t * n.low + 0 * n.high) 1 (4 * E)) where
          rest : Approximates (x ⊖ shift) (a.high + p.low) (a.low + p.high) 1 (8 * E)
          rest = difference_error 12 (lit< tt) a.counts p.counts (rest_close z steps p.high p.low p.off)

          ends : Approximates (x ⊖ shift) (a.high + p.low) (a.low + p.high) 1 (8 * E) → Shifts
          ends r = record {
            high = p.high;
            low = p.low;
            counts = p.counts;
            turned = mul_comm_finite binary64 (o.whole quotient) period n.counts.sound c.sound;
            leaves = shift_leaves z steps p.high p.low p.off;
            rest = r;
            lands = rest_lands z steps p.high p.low p.off r.high r.low r.off;
          }

    shifts : Shifts
    shifts =
        let d = difference in
        let q = divided d in
        let n = o.near quotient q.high q.low (div-fits binary64 (x ⊖ y) period) q.counts in
        let p = product d q n in
        ends d q n p (rest d q n p)

-- ---- turns of TAU
turn_above : Positive TAU
unfolding of_bits
turn_above = record { size = 884279719003554; expo = negsuc 46; is = refl }

turn_counts : Counts scale TAU turn_units 0
unfolding of_bits units
turn_counts = record { sound = tt; over = refl; under = refl }

turn_sizes : Sizes scale E turn_units
unfolding of_bits units
turn_sizes = record { one = pow_pos 1074; small = lit≤ tt; least = lit≤ tt; most = lit≤ tt }

-- all errors together are within the slack
fifteen : 15 * E ≤ 2 * slack_units
fifteen = lit≤ tt

all_errors : 23 * E ≤ 2 * slack_units
all_errors = lit≤ tt

-- errors of e in all are within a slack of S
widened : (a b K L e S : ℕ) → e ≤ S → Off a b (K + e) (L + e) → Off a b (K + S) (L + S)
widened a b K L e S few h = record { over = omega (arith, h.over); under = omega (arith, h.under) }

-- what is left has the other sign than the shift
left_of : (P P' a a' b b' K L : ℕ) → Off (P + (a' + b)) (P' + (a + b')) K L → Off (a + b' + P') (a' + b + P) L K
left_of P P' a a' b b' K L h = record { over = omega (arith, h.under); under = omega (arith, h.over) }

module _ {a b : ℕ} {z : ℤ} (t s : ℕ) (d : Difference a b z) where
  half-size : Off a b (1 * t + 2 * s) (1 * t + 2 * s) → 2 * nat_abs z ≤ t + 2 * s
  half-size h = difference_size (t + 2 * s) d (omega (arith, h.over)) (omega (arith, h.under))

  not_under : Off a b (2 * t + 2 * s) (0 * t + 2 * s) → T (le_z (neg_ℤ (pos s)) z)
  not_under h = at_least s d (omega (arith, h.under))

  not_over : Off a b (2 * t + 2 * s) (0 * t + 2 * s) → T (le_z z (pos (t + s)))
  not_over h = at_most (t + s) d (omega (arith, h.over))

reached_real : (x : Float) → T (fits binary64 x) → Reached x → FiniteReal x
reached_real x f v = record { fits = f; finite = within_finite 1000 x v }

module _ (o : Choice) (x y : Float) (f : T (fits binary64 x)) (g : T (fits binary64 y)) (v : Reached x) (w : Reached y) where
  a : Counted x
  a = real-counts x (reached_real x f v)

  b : Counted y
  b = real-counts y (reached_real y g w)

  turn_shifts : Shifts TAU turn_units turn_above turn_counts turn_sizes o x y a b
  turn_shifts =
      shifts TAU turn_units turn_above turn_counts turn_sizes o x y a b
      (record { x = counts_within 1000 scale x a.high a.low a.counts v; y = counts_within 1000 scale y b.high b.low b.counts w })

  abbrev taken : Float
  taken = TAU ⊗ o.whole ((x ⊖ y) ⊘ TAU)

  turned-shift : o.whole ((x ⊖ y) ⊘ TAU) ⊗ TAU ≡ taken
  turned-shift = turn_shifts.turned

  shift-finite : T (finite taken)
  shift-finite = turn_shifts.counts.sound

  left_is : Difference (a.high + b.low + turn_shifts.low) (a.low + b.high + turn_shifts.high) (left_over x y taken)
  left_is =
      difference_sub (difference_sub (counts-units x a.high a.low a.counts) (counts-units y b.high b.low b.counts))
      (counts-units taken turn_shifts.high turn_shifts.low turn_shifts.counts)

  -- what is left, doubled: at most l turns above zero, and h below
  left_off : Off (a.high + b.low + turn_shifts.low) (a.low + b.high + turn_shifts.high) (o.l * turn_units + 2 * slack_units) (o.h * turn_units + 2 * slack_units)
  left_off =
      let s = turn_shifts in
      left_of s.high s.low a.high a.low b.high b.low (o.h * turn_units + 2 * slack_units) (o.l * turn_units + 2 * slack_units)
      (widened _ _ (o.h * turn_units) (o.l * turn_units) (15 * E) (2 * slack_units) fifteen s.leaves)

  landed_is : Difference (turn_shifts.rest.high + b.low) (turn_shifts.rest.low + b.high) (units (x ⊖ taken) -ℤ units y)
  landed_is =
      let r = turn_shifts.rest in
      difference_sub (counts-units (x ⊖ taken) r.high r.low r.counts) (counts-units y b.high b.low b.counts)

  landed_off : Off (turn_shifts.rest.high + b.low) (turn_shifts.rest.low + b.high) (o.l * turn_units + 2 * slack_units) (o.h * turn_units + 2 * slack_units)
  landed_off = widened _ _ (o.l * turn_units) (o.h * turn_units) (23 * E) (2 * slack_units) all_errors turn_shifts.lands

turns_on : le TAU plus_zero ≡ false
unfolding le of_bits
turns_on = refl

module _ (x y : Float) (f : T (fits binary64 x)) (g : T (fits binary64 y)) where
  -- to the nearest turn: where a value ends, wherever the closing shifts it
  pub lands : Reached x → Reached y → T (finite (x ⊖ branch_shift x y TAU)) × (2 * distance (x ⊖ branch_shift x y TAU) y ≤ turn_units + 2 * slack_units)
  lands v w = ((turn_shifts to-nearest x y f g v w).rest.counts.sound, half-size turn_units slack_units (landed_is to-nearest x y f g v w) (landed_off to-nearest x y f g v w))

  pub left_half : Reached x → Reached y → T (finite (branch_shift x y TAU)) × (2 * nat_abs (left_over x y (branch_shift x y TAU)) ≤ turn_units + 2 * slack_units)
  left_half v w = (shift-finite to-nearest x y f g v w, half-size turn_units slack_units (left_is to-nearest x y f g v w) (left_off to-nearest x y f g v w))

  -- the period times the number of turns, or the number times the period
  pub half-turned : Reached x → Reached y → round_away ((x ⊖ y) ⊘ TAU) ⊗ TAU ≡ branch_shift x y TAU
  half-turned v w = turned-shift to-nearest x y f g v w

  leaves_half : (period : Float) → LeavesHalf x y period (branch_shift x y period)
  unfolding LeavesHalf
  leaves_half period e v w = rw e (left_half v w)

  leaves_half-turned : (period : Float) → LeavesHalf x y period (round_away ((x ⊖ y) ⊘ period) ⊗ period)
  unfolding LeavesHalf
  leaves_half-turned period e v w = rw (e, half-turned v w) (left_half v w)

  lands_near : (period : Float) → LandsNear x y period (x ⊖ branch_shift x y period)
  unfolding LandsNear
  lands_near period e v w = rw e (lands (within_more 64 1000 x (lit≤ tt) v) (within_more 64 1000 y (lit≤ tt) w))

  branch_lands : (period : Float) → LandsNear x y period (nearest_branch x y period)
  unfolding LandsNear nearest_branch
  branch_lands period e v w = rw (e, turns_on) (lands_near TAU refl v w)

  -- down to a turn
  abbrev down : Float
  down = floor_of ((x ⊖ y) ⊘ TAU) ⊗ TAU

  pub left_turn : Reached x → Reached y → T (finite down) × T (le_z (neg_ℤ (pos slack_units)) (left_over x y down)) × T (le_z (left_over x y down) (pos (turn_units + slack_units)))
  left_turn v w =
      let d = left_is downward x y f g v w in
      let k = left_off downward x y f g v w in
      rw (turned-shift downward x y f g v w) (shift-finite downward x y f g v w, not_under turn_units slack_units d k, not_over turn_units slack_units d k)

  leaves_turn : (period : Float) → LeavesTurn x y period (floor_of ((x ⊖ y) ⊘ period) ⊗ period)
  unfolding LeavesTurn
  leaves_turn period e v w = rw e (left_turn v w)

-- ---- as the contracts have it: of an answer, and of reals that fit by a test
holds : {t : Bool} → t ≡ true → T t
holds e = subst T (sym e) tt

module _ (x y period r : Float) (f : fits binary64 x ≡ true) (g : fits binary64 y ≡ true) where
  pub shift_answer : r ≡ branch_shift x y period → (r ≡ branch_shift x y period) × LeavesHalf x y period r
  shift_answer e = (e, subst (LeavesHalf x y period) (sym e) (leaves_half x y (holds f) (holds g) period))

  pub branch_answer : r ≡ nearest_branch x y period → (r ≡ nearest_branch x y period) × LandsNear x y period r
  branch_answer e = (e, subst (LandsNear x y period) (sym e) (branch_lands x y (holds f) (holds g) period))

  pub moved_answer : r ≡ x ⊖ branch_shift x y period → LandsNear x y period r
  moved_answer e = subst (LandsNear x y period) (sym e) (lands_near x y (holds f) (holds g) period)

  pub half_answer : r ≡ round_away ((x ⊖ y) ⊘ period) ⊗ period → LeavesHalf x y period r
  half_answer e = subst (LeavesHalf x y period) (sym e) (leaves_half-turned x y (holds f) (holds g) period)

  pub turn_answer : r ≡ floor_of ((x ⊖ y) ⊘ period) ⊗ period → LeavesTurn x y period r
  turn_answer e = subst (LeavesTurn x y period) (sym e) (leaves_turn x y (holds f) (holds g) period)
