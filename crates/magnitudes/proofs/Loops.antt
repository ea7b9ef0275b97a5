-- Bounds of what `loops`, `rings` and `closed_region` work out of a loop's parameters: its least, greatest and middle, shifts by whole turns, and its area.
use mathlib.Core.Path.{◌≡◌, sym, ap, ◌∙◌, subst}
use Prim.Native.Nat.{ℕ, zero, suc, ◌+◌, ◌*◌, ◌%◌, ◌^◌, ◌≤◌, ◌<◌, min, max}
use native.Mathlib.Nat.{le_trans, le_of_eq, le-add_left, mod-lt, mul_comm, mul-le-mul_right, pow-suc, two-mul}
use native.Mathlib.Omega.{arith}
use mathlib.Core.Bool.{Bool, true, false, cond}
use mathlib.Core.List.{List, foldl}
use lib.Dec.{T, lit<, lit≤}
use lib.IntN.{nat_abs}
use lib.Pow.{pow-add, pow_mono}
use lib.ListN.{length, get_or}
use lib.Ieee.{Float, nan, inf, fin, binary64, fits, lt}
use lib.Ieee.Fits.{sub-fits, mul-fits}
use lib.Ieee.Scale.{finite}
use Rattle.numbers.specs.Constants.{plus_zero, half, TAU}
use Rattle.numbers.specs.Order.{min_of, max_of}
use Rattle.numbers.specs.Rounded.{◌⊕◌, ◌⊖◌, ◌⊗◌, ◌⊘◌}
use Rattle.numbers.specs.Round.{round_away, floor_of}
use Rattle.numbers.specs.Units.{scale, units, FiniteReal}
use Rattle.numbers.specs.Within.{Within, Held}
use Rattle.numbers.proofs.Integers.{taken-size, between-size, distance-turned}
use Rattle.numbers.proofs.Magnitude.{held_small, held_pow, held_times, within_more, within_finite, add_within, mul-pow, sub-pow, half_within, zero_within}
use Rattle.numbers.proofs.Units.{within_units, units_within, distance_within}
use Rattle.surfaces.specs.Rungs.{rungs}
use Rattle.surfaces.proofs.knots.Between.{rungs_within}
use Rattle.loops.specs.Area.{cross_at, cross_sum, area_of}
use Rattle.loops.specs.Branch.{branch_shift, turn_units, slack_units, Reached, left_over}
use Rattle.loops.specs.Span.{least_of, greatest_of, middle_of}
use Rattle.loops.proofs.Landing.{lands, left_half, half-turned, left_turn}
use Rattle.closed_region.specs.Rephase.{shift_of}
use Rattle.rings.specs.Choices.{strip_shift}
use Rattle.lists.specs.Elements.{All, none, and}
use Rattle.call.proofs.Each.{all_in, all_at}

-- ---- what holds of each element, twice

pub all_both : {A : Type 0} {P Q : A → Type 0} {xs : List A} → All P xs → All Q xs → All (λ (a : A). P a × Q a) xs
all_both none none = none
all_both (and p ps) (and q qs) = and (p, q) (all_both ps qs)

-- ---- a real of the closing, at most B in size

pub record Known (B : ℕ) (x : Float) : Type 0 where
  pub within : Within B x
  pub fits : T (fits binary64 x)

module _ {B : ℕ} {x : Float} (h : Known B x) where
  pub known_more : (C : ℕ) → B ≤ C → Known C x
  known_more C l = record { within = within_more B C x l h.within; fits = h.fits }

  known_real : FiniteReal x
  known_real = record { fits = h.fits; finite = within_finite B x h.within }

pub pick_known : {B : ℕ} {x y : Float} → (t : Bool) → Known B x → Known B y → Known B (cond t x y)
pick_known true p q = p
pick_known false p q = q

pub min_known : {B : ℕ} {x y : Float} → Known B x → Known B y → Known B (min_of x y)
min_known {B} {x} {y} p q = pick_known (lt y x) q p

-- ---- the least, the greatest and the middle of a loop with corners

module _ (B : ℕ) where
  fold_min : (from : Float) {xs : List Float} → Known B from → All (Known B) xs → Known B (foldl min_of from xs)
  fold_min from w none = w
  fold_min from w (and {a} h hs) = fold_min (min_of from a) (pick_known (lt a from) h w) hs

  fold_max : (from : Float) {xs : List Float} → Known B from → All (Known B) xs → Known B (foldl max_of from xs)
  fold_max from w none = w
  fold_max from w (and {a} h hs) = fold_max (max_of from a) (pick_known (lt from a) h w) hs

  -- every real is less than the infinity that the least starts from, and greater than the other
  first-least : (x : Float) → Known B x → Known B (min_of (inf false) x)
  unfolding lt
  first-least nan w = absurd w.within
  first-least (inf s) w = absurd w.within
  first-least (fin s m e) w = w

  first_greatest : (x : Float) → Known B x → Known B (max_of (inf true) x)
  unfolding lt
  first_greatest nan w = absurd w.within
  first_greatest (inf s) w = absurd w.within
  first_greatest (fin s m e) w = w

  pub least_known : {xs : List Float} → All (Known B) xs → 0 < length xs → Known B (least_of xs)
  unfolding least_of
  least_known none some = absurd (omega arith)
  least_known (and {a} h hs) some = fold_min (min_of (inf false) a) (first-least a h) hs

  pub greatest_known : {xs : List Float} → All (Known B) xs → 0 < length xs → Known B (greatest_of xs)
  unfolding greatest_of
  greatest_known none some = absurd (omega arith)
  greatest_known (and {a} h hs) some = fold_max (max_of (inf true) a) (first_greatest a h) hs

  pub middle_known : {xs : List Float} → B < 2 ^ 52 → All (Known B) xs → 0 < length xs → Known B (middle_of xs)
  unfolding middle_of
  middle_known {xs} few h some = record {
    within = half_within B (least_of xs ⊕ greatest_of xs) (held_small B (omega arith))
        (add_within B B (least_of xs) (greatest_of xs) (held_small (B + B) (omega arith)) (least_known h some).within (greatest_known h some).within);
    fits = mul-fits binary64 (least_of xs ⊕ greatest_of xs) half;
  }

-- ---- shifts by whole turns: no further than the distance and what they leave of it

half_turn : turn_units + 2 * slack_units ≤ 8 * scale
unfolding units lib.Ieee.of_bits
half_turn = lit≤ tt

whole_turn : turn_units + slack_units ≤ 7 * scale
unfolding units lib.Ieee.of_bits
whole_turn = lit≤ tt

some_slack : slack_units ≤ turn_units + slack_units
some_slack = le-add_left slack_units turn_units

-- at most 1,000, as far out as it is known what a shift leaves
module _ (A B : ℕ) (A_near : A ≤ 1000) (B_near : B ≤ 1000) (x y : Float) (v : Known A x) (w : Known B y) where
  reached_x : Reached x
  reached_x = within_more A 1000 x A_near v.within

  reached_y : Reached y
  reached_y = within_more B 1000 y B_near w.within

  -- what leaves at most M of the distance is at most A + B + M in size
  taken : (M : ℕ) (s : Float) → T (fits binary64 s) → T (finite s) → nat_abs (left_over x y s) ≤ M * scale → Within (A + B + M) s
  taken M s f g l =
      let x-few = within_units A x (known_real v) v.within in
      let y-few = within_units B y (known_real w) w.within in
      let few = taken-size (units x) (units y) (units s) (A * scale) (B * scale) (M * scale) x-few y-few l in
      units_within (A + B + M) s (record { fits = f; finite = g }) (le_trans few (le_of_eq (together A B M scale)))
    where
      together : (a b m s : ℕ) → a * s + b * s + m * s ≡ (a + b + m) * s
      together a b m s = omega arith

  halved : (d a b : ℕ) → 2 * d ≤ a → a ≤ 8 * b → d ≤ 4 * b
  halved d a b h l = omega arith

  pub branch_within : Within (A + B + 4) (branch_shift x y TAU)
  branch_within =
      let h = left_half x y v.fits w.fits reached_x reached_y in
      taken 4 (branch_shift x y TAU) (mul-fits binary64 _ _) h.0 (halved _ (turn_units + 2 * slack_units) scale h.1 half_turn)

  pub nearest_within : Within (A + B + 4) (round_away ((x ⊖ y) ⊘ TAU) ⊗ TAU)
  nearest_within = subst (Within (A + B + 4)) (sym (half-turned x y v.fits w.fits reached_x reached_y)) branch_within

  pub floor_within : Within (A + B + 7) (floor_of ((x ⊖ y) ⊘ TAU) ⊗ TAU)
  floor_within =
      let h = left_turn x y v.fits w.fits reached_x reached_y in
      let s : Float = floor_of ((x ⊖ y) ⊘ TAU) ⊗ TAU in
      taken 7 s (mul-fits binary64 _ _) h.0 (le_trans (between-size (left_over x y s) slack_units (turn_units + slack_units) h.1 h.2 some_slack) whole_turn)

  -- where a value lands: at most 4 from the reference
  pub landed_apart : Within 4 (y ⊖ (x ⊖ branch_shift x y TAU))
  landed_apart =
      let h = lands x y v.fits w.fits reached_x reached_y in
      let r : Float = x ⊖ branch_shift x y TAU in
      distance_within 4 y r (held_small 4 (lit< tt)) (known_real w) (record { fits = sub-fits binary64 _ _; finite = h.0 })
      (subst (λ (d : ℕ). d ≤ 4 * scale) (distance-turned (units r) (units y)) (halved _ (turn_units + 2 * slack_units) scale h.1 half_turn))

pub strip-shift_within : (A B : ℕ) → A ≤ 1000 → B ≤ 1000 → (lo : Float) {us : List Float} → Known B lo → All (Known A) us → 0 < length us
    → Within (A + B + 7) (strip_shift TAU lo us)
unfolding strip_shift
strip-shift_within A B a b lo {us} w h some = floor_within A B a b (least_of us) lo (least_known A h some) w

-- onto the branch of a middle, where the direction comes round by TAU or, at a period of 0, is open
pub turned-shift : (B : ℕ) → B ≤ 1000 → (middle : Float) → Known B middle → {xs : List Float} → All (Known B) xs → 0 < length xs
    → Within (B + B + 4) (shift_of middle TAU xs)
unfolding shift_of
turned-shift B b middle w {xs} h some = go (lt plus_zero TAU)
  where
    go : (t : Bool) → Within (B + B + 4) (cond t (round_away ((middle ⊖ middle_of xs) ⊘ TAU) ⊗ TAU) plus_zero)
    go true = nearest_within B B b b middle (middle_of xs) w (middle_known B (omega arith) h some)
    go false = zero_within (B + B + 4)

pub open_shift : (middle : Float) (xs : List Float) → Within 0 (shift_of middle plus_zero xs)
unfolding shift_of lt lib.Ieee.of_bits
open_shift middle xs = zero_within 0

-- ---- the area of at most 2 ^ d corners with parameters of at most 2 ^ j and 2 ^ k

module _ (j k : ℕ) (small : j + k ≤ 800) (us vs : List Float) (hu : All (Within (2 ^ j)) us) (hv : All (Within (2 ^ k)) vs) where
  cross_within : (i n : ℕ) → i < length us → i < length vs → n < length us → n < length vs → Within (2 ^ suc (j + k)) (cross_at us vs i n)
  unfolding cross_at
  cross_within i n iu iv nu nv =
      sub-pow (j + k) (get_or us i nan ⊗ get_or vs n nan) (get_or us n nan ⊗ get_or vs i nan) (omega arith)
      (mul-pow j k (get_or us i nan) (get_or vs n nan) (omega arith) (all_in hu i nan iu) (all_in hv n nan nv))
      (mul-pow j k (get_or us n nan) (get_or vs i nan) (omega arith) (all_in hu n nan nu) (all_in hv i nan iv))

  sum_within : (n m : ℕ) → n ≤ length us → n ≤ length vs → n < 2 ^ 52 → m ≤ n → Within (m * 2 ^ suc (j + k)) (cross_sum us vs n m)
  unfolding cross_sum
  sum_within n zero lu lv few l = zero_within (0 * 2 ^ suc (j + k))
  sum_within n (suc m) lu lv few l =
      let C = 2 ^ suc (j + k) in
      let next : (m + 1) % n < n = mod-lt (m + 1) (omega arith) in
      let more : m * C + C ≡ suc m * C = ends m C in
      subst (λ (z : ℕ). Within z (cross_sum us vs n m ⊕ cross_at us vs m ((m + 1) % n))) more
      (add_within (m * C) C (cross_sum us vs n m) (cross_at us vs m ((m + 1) % n)) (subst Held (sym more) (held_times (suc m) (suc (j + k)) (omega arith) (omega arith)))
      (sum_within n m lu lv few (omega arith))
      (cross_within m ((m + 1) % n) (omega arith) (omega arith) (omega arith) (omega arith)))
    where
      ends : (m c : ℕ) → m * c + c ≡ suc m * c
      ends m c = omega arith

  pub area_within_lem : (d : ℕ) → d ≤ 16 → length us ≤ 2 ^ d → Within (2 ^ (j + k + d)) (area_of us vs)
  unfolding area_of
  area_within_lem d short few =
      let n = min (length us) (length vs) in
      half_within (2 ^ (j + k + d)) (cross_sum us vs n n) (held_pow (j + k + d) (omega arith))
      (within_more (n * 2 ^ suc (j + k)) (2 ^ (j + k + d) + 2 ^ (j + k + d)) (cross_sum us vs n n)
      (le_trans (mul-le-mul_right (2 ^ suc (j + k)) (least (2 ^ d) few)) (le_of_eq (powers (j + k))))
      (sum_within n n (omega arith) (omega arith) (counted (2 ^ d) few (pow_mono short)) (omega arith)))
    where
      least : (P : ℕ) → length us ≤ P → min (length us) (length vs) ≤ P
      least P few = omega arith

      counted : (P : ℕ) → length us ≤ P → P ≤ 2 ^ 16 → min (length us) (length vs) < 2 ^ 52
      counted P few most = omega arith

      powers : (e : ℕ) → 2 ^ d * 2 ^ suc e ≡ 2 ^ (e + d) + 2 ^ (e + d)
      powers e = sym (pow-add 2 d (suc e)) ∙ ap (λ (z : ℕ). 2 ^ z) (exponents e) ∙ pow-suc 2 (e + d) ∙ mul_comm (2 ^ (e + d)) 2 ∙ two-mul (2 ^ (e + d))
        where
          exponents : (e : ℕ) → d + suc e ≡ suc (e + d)
          exponents e = omega arith

-- ---- the rungs between two bounded reals

pub rungs_each_within : (A D n : ℕ) (lo hi : Float) → Within A lo → Within D (hi ⊖ lo) → max n 1 < 2 ^ 53 → D * max n 1 < 2 ^ 53 → A + D < 2 ^ 53
    → Within (A + D) hi → All (Within (A + D)) (rungs lo hi n)
rungs_each_within A D n lo hi low wide few short most high = all_at (rungs lo hi n) nan (rungs_within A D n lo hi low wide few short most high)
