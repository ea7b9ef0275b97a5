-- What the ranges of `Limits` say of the size of a real that they hold.
use Prim.Native.Nat.{ℕ}
use mathlib.Core.Path.{◌≡◌, refl, sym, subst}
use mathlib.Core.Bool.{Bool, true, false, ◌&&◌}
use lib.Dec.{T, lit≤}
use lib.Ieee.{Float, binary64, le, neg, of_bits}
use lib.Ieee.Back.{round_whole}
use lib.Ieee.Exact.{HasValue}
use Rattle.numbers.specs.Within.{Within}
use Rattle.numbers.proofs.Equality.{and_left, and_right}
use Rattle.numbers.proofs.Fractions.{Under, under_tests}
use Rattle.numbers.proofs.Magnitude.{within_tests}
use Rattle.numbers.proofs.Signed.{le_trans_float}
use Rattle.records.specs.Limits.{10^9, 10^6, 64·0, 1·5, 0·0, ◌to◌, up_to, finite, holds}
use Rattle.numbers.specs.Constants.{10^-6}
use Rattle.records.specs.Values.{bounds}

-- the two comparisons of a range
module _ (low high x : Float) (h : holds (low to high) x ≡ true) where
  both : (le low x && le x high) ≡ true
  unfolding holds
  both = and_right (finite x) (le low x && le x high) h

  above : le low x ≡ true
  above = and_left (le low x) (le x high) both

  below : le x high ≡ true
  below = and_right (le low x) (le x high) both

  true_of : (t : Bool) → T t → t ≡ true
  true_of true p = refl
  true_of false p = absurd p

  -- a range from at least -K to K
  range_within : (K : ℕ) → HasValue high false K 1 → T (le (neg high) low) → Within K x
  range_within K v l = within_tests K high x v below (true_of (le (neg high) x) (le_trans_float (neg high) low x l (subst T (sym above) tt)))

-- ---- the limits as numbers

billion : HasValue 10^9 false 1000000000 1
billion = subst (λ (c : Float). HasValue c false 1000000000 1) bounds.is_10^9 (round_whole binary64 false 1000000000 (lit≤ tt))

million : HasValue 10^6 false 1000000 1
million = subst (λ (c : Float). HasValue c false 1000000 1) bounds.is_10^6 (round_whole binary64 false 1000000 (lit≤ tt))

sixty_four : HasValue 64·0 false 64 1
sixty_four = subst (λ (c : Float). HasValue c false 64 1) bounds.is_64·0 (round_whole binary64 false 64 (lit≤ tt))

nought : HasValue 0·0 false 0 1
nought = subst (λ (c : Float). HasValue c false 0 1) bounds.is_0·0 (round_whole binary64 false 0 (lit≤ tt))

one_and_a_half : HasValue 1·5 false 3 2
unfolding of_bits
one_and_a_half = (refl, refl)

ordered : T (le (neg 10^9) (neg 10^9)) × T (le (neg 10^6) (neg 10^6)) × T (le (neg 64·0) (neg 64·0)) × T (le (neg 10^6) 10^-6) × T (le (neg 10^6) 0·0) × T (le (neg 0·0) 0·0)
unfolding le neg of_bits
ordered = (tt, tt, tt, tt, tt, tt)

-- ---- "Size limits: 10^9 for positions; 10^6 for u of a plane and v of plane, cylinder and cone; 64 for other parameters", and the ranges of sizes and angles

module _ (x : Float) where
  pub within_billion : holds (up_to 10^9) x ≡ true → Within 1000000000 x
  within_billion h = range_within (neg 10^9) 10^9 x h 1000000000 billion ordered.0

  pub within_million : holds (up_to 10^6) x ≡ true → Within 1000000 x
  within_million h = range_within (neg 10^6) 10^6 x h 1000000 million ordered.1

  pub within_64 : holds (up_to 64·0) x ≡ true → Within 64 x
  within_64 h = range_within (neg 64·0) 64·0 x h 64 sixty_four ordered.2

  pub length_within : holds (10^-6 to 10^6) x ≡ true → Within 1000000 x
  length_within h = range_within 10^-6 10^6 x h 1000000 million ordered.3

  pub radius_within : holds (0·0 to 10^6) x ≡ true → Within 1000000 x
  radius_within h = range_within 0·0 10^6 x h 1000000 million ordered.4

  pub none_within : holds (0·0 to 0·0) x ≡ true → Within 0 x
  none_within h = range_within 0·0 0·0 x h 0 nought ordered.5

  pub angle-under : holds (up_to 1·5) x ≡ true → Under 3 2 x
  angle-under h = under_tests 3 2 1·5 x one_and_a_half (subst T (sym (below (neg 1·5) 1·5 x h)) tt) (subst T (sym (above (neg 1·5) 1·5 x h)) tt)
