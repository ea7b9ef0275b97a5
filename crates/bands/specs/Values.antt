-- Values of the band path, computed. Positions are letters or numbers here.
use Rattle.std.specs.Prelude.{ℕ, ◌+◌, ◌≡◌, refl, Bool, true, false, List, [], ◌∷◌, map, reverse, eqb, ℤ, pos, negsuc, ◌+ℤ◌, Float, Some, None}
use Rattle.std.specs.Float.{binary64, fin}
use Rattle.std.specs.Float.Ieee.{add, sub, mul, div, neg, lt, le, eq, ne, of_bits, of_int, to_signed}
use Rattle.loops.specs.Steps.{net, net_of, count, steps_round, steps_along}
use Rattle.loops.specs.Rings.{ends_meet, begun, closed, turned}
use Rattle.loops.specs.Repeats.{drop_merging, drop_successive, drop_trailing, kept_from, cut_back}
use Rattle.numbers.specs.Order.{abs_of}
use Rattle.numbers.specs.Round.{round_away, floor_of}
use Rattle.loops.specs.Mean.{mean_of, sum_of}
use Rattle.loops.specs.Span.{least_of, greatest_of}
use Rattle.loops.specs.Wrap.{net_wrap, wrap_every, turns_counted}
use Rattle.tables.specs.Corners.{Corner, Corners, us, positions}
use Rattle.rings.specs.Choices.{least_u, greatest_u, first_past, first_open_past, strip_shift, straddles, nearest, first_least, first_from, serve, begins_backward, stands_at_the_cut}
use Rattle.tables.specs.Moves.{unless_zero}
use Rattle.rings.specs.Turns.{turned_unless, turned_onto, align_at}
use Rattle.rings.specs.Starts.{bare, serves, first_serving, start, align_cuts, slide_to_cut}
use Rattle.bands.specs.Given.{Measured, Given, given_of}
use Rattle.lists.specs.Elements.{only}
use Rattle.bands.specs.Rings.{Face, rising, shifted, laid, onto, on_strip, any_straddles, across_seam, gap_of, recut, cut_anew, has_strip, has_gap, reseam, trial, started}
use Rattle.seam.specs.Gap.{insert, sorted, passed, gap_along, widest_gap, usable}
use Rattle.surfaces.specs.Rungs.{division, divisions_from, slack_of, near, kept_after, kept_divisions, ended_on, rungs, inner}
use Rattle.bands.specs.Strip.{Setting, ladder, heights, strip}
use Rattle.bands.specs.Band.{first_is_lower, lift, joined, lower_first, lower_ring, upper_ring, strip_of, outer, holes}

-- -4 to 9 as reals
abbrev r_4 : Float
r_4 = fin true 1 (pos 2)

abbrev r_1 : Float
r_1 = fin true 1 (pos 0)

abbrev r0 : Float
r0 = fin false 0 (pos 0)

abbrev r1 : Float
r1 = fin false 1 (pos 0)

abbrev r1·5 : Float
r1·5 = fin false 3 (negsuc 0)

abbrev r2 : Float
r2 = fin false 1 (pos 1)

abbrev r3 : Float
r3 = fin false 3 (pos 0)

abbrev r4 : Float
r4 = fin false 1 (pos 2)

abbrev r4·5 : Float
r4·5 = fin false 9 (negsuc 0)

abbrev r5 : Float
r5 = fin false 5 (pos 0)

abbrev r5·5 : Float
r5·5 = fin false 11 (negsuc 0)

abbrev r5·75 : Float
r5·75 = fin false 23 (negsuc 1)

abbrev r6 : Float
r6 = fin false 3 (pos 1)

abbrev r7 : Float
r7 = fin false 7 (pos 0)

abbrev r8 : Float
r8 = fin false 1 (pos 3)

abbrev r9 : Float
r9 = fin false 9 (pos 0)

abbrev corner : {X : Type 0} → Float → Float → X → Corner X
corner u v a = record { u = u; v = v; at = a }

-- ---- 01, "Values to hold": "Period 4, cut 0, ring u 1, 2, 3, 4, 5, positions A B C D A: becomes u 0, 1, 2, 3, 4, D A B C D."

pub data Letter : Type 0 where
  A B C D : Letter

abbrev pub ABCDA : Corners Letter
ABCDA = corner r1 r0 A ∷ corner r2 r0 B ∷ corner r3 r0 C ∷ corner r4 r0 D ∷ corner r5 r0 A ∷ []

pub ring_aligned : align_cuts r4 r0 ABCDA ≡ corner r0 r0 D ∷ corner r1 r0 A ∷ corner r2 r0 B ∷ corner r3 r0 C ∷ corner r4 r0 D ∷ []
unfolding align_cuts align_at turned_onto nearest first_least begun closed abs_of round_away add sub mul div neg lt of_bits
ring_aligned = refl

-- 1 and 3 lie equally near 0: the first of equals
first_of_equals : nearest r4 r0 (r1 ∷ r2 ∷ r3 ∷ r5 ∷ []) ≡ 0
unfolding nearest first_least abs_of round_away add sub mul div neg lt of_bits
first_of_equals = refl

-- ---- a band: a cylinder between v 0 and v 1, period 4, each ring three steps round and its first point again. The upper loop runs backward in the file.

low_loop : Measured ℕ
low_loop = record { corners = corner r0 r0 10 ∷ corner r1 r0 11 ∷ corner r2 r0 12 ∷ corner r4 r0 10 ∷ []; wrap = pos 1 }

high_loop : Measured ℕ
high_loop = record { corners = corner r4 r1 20 ∷ corner r2 r1 22 ∷ corner r1 r1 21 ∷ corner r0 r1 20 ∷ []; wrap = negsuc 0 }

bore : Measured ℕ
bore = record { corners = corner r1 r0 31 ∷ corner r2 r0 32 ∷ corner r2 r1 33 ∷ []; wrap = pos 0 }

tube : Given ℕ
tube = given_of (low_loop ∷ bore ∷ high_loop ∷ [])

-- the last wrapping loop is the first ring
last-first : positions tube.first.corners ≡ 20 ∷ 22 ∷ 21 ∷ 20 ∷ []
unfolding tube given_of only low_loop high_loop bore
last-first = refl

-- two rungs between the rings, 40 and 50 at r4 and r5
plain : Setting ℕ
plain = record {
  period = r4;
  v_period = None;
  sense = true;
  same = eqb;
  point_at = λ u v. point_of (lt v r5);
  rungs = λ lo hi n. lo ∷ r4 ∷ r5 ∷ hi ∷ [];
  steps = λ lo hi. 3;
}
  where
    point_of : Bool → ℕ
    point_of true = 40
    point_of false = 50

-- the lower ring, its first point again, the wall at the end of the strip, the upper ring's first point, that ring backward, the wall backward at the begin
tube-strip : strip_of plain tube
    ≡ corner r0 r0 10 ∷ corner r1 r0 11 ∷ corner r2 r0 12 ∷ corner r4 r0 10 ∷ corner r4 r0 10
    ∷ corner r4 r4 40 ∷ corner r4 r5 50 ∷ corner r4 r1 20 ∷ corner r4 r1 20
    ∷ corner r2 r1 22 ∷ corner r1 r1 21 ∷ corner r0 r1 20 ∷ corner r0 r5 50 ∷ corner r0 r4 40 ∷ []
unfolding strip_of strip heights ladder lower_ring upper_ring lower_first first_is_lower lift joined laid rising shifted least_u greatest_u reseam has_strip across_seam on_strip any_straddles started start first_serving first_from serves serve begins_backward stands_at_the_cut trial turned_unless align_cuts align_at turned_onto nearest first_least slide_to_cut unless_zero turned begun closed least_of greatest_of mean_of sum_of abs_of round_away plain tube given_of only low_loop high_loop bore onto strip_shift straddles floor_of add sub mul div neg lt le eq ne of_bits of_int inner
tube-strip = refl

-- the repeats are gone
tube-outer : positions (outer plain tube) ≡ 10 ∷ 11 ∷ 12 ∷ 10 ∷ 40 ∷ 50 ∷ 20 ∷ 22 ∷ 21 ∷ 20 ∷ 50 ∷ 40 ∷ []
unfolding outer plain drop_merging drop_successive drop_trailing kept_from cut_back strip_of strip heights ladder lower_ring upper_ring lower_first first_is_lower lift joined laid rising shifted least_u greatest_u reseam has_strip across_seam on_strip any_straddles started start first_serving first_from serves serve begins_backward stands_at_the_cut trial turned_unless align_cuts align_at turned_onto nearest first_least slide_to_cut unless_zero turned begun closed least_of greatest_of mean_of sum_of abs_of round_away tube given_of only low_loop high_loop bore onto strip_shift straddles floor_of add sub mul div neg lt le eq ne of_bits of_int inner
tube-outer = refl

-- no hole is across, the ends meet, 10 to 11 is one step of the lower ring, and 21 to 22 one of the upper ring read backward
tube_clear : across_seam plain.period (laid plain.period tube) ≡ false
unfolding plain tube given_of only low_loop high_loop bore across_seam on_strip any_straddles onto unless_zero strip_shift straddles laid rising shifted least_u least_of greatest_of round_away floor_of add sub mul div neg lt ne of_bits
tube_clear = refl

tube_meets : ends_meet plain.same (positions tube.first.corners) ≡ true
unfolding plain tube given_of only low_loop high_loop bore ends_meet
tube_meets = refl

tube-steps : net eqb 10 11 (positions (outer plain tube)) ≡ pos 1
unfolding net net_of count steps_round steps_along outer plain drop_merging drop_successive drop_trailing kept_from cut_back strip_of strip heights ladder lower_ring upper_ring lower_first first_is_lower lift joined laid rising shifted least_u greatest_u reseam has_strip across_seam on_strip any_straddles started start first_serving first_from serves serve begins_backward stands_at_the_cut trial turned_unless align_cuts align_at turned_onto nearest first_least slide_to_cut unless_zero turned begun closed least_of greatest_of mean_of sum_of abs_of round_away tube given_of only low_loop high_loop bore onto strip_shift straddles floor_of add sub mul div neg lt le eq ne of_bits of_int inner
tube-steps = refl

tube-steps-upper : net eqb 21 22 (positions (outer plain tube)) ≡ negsuc 0
unfolding net net_of count steps_round steps_along outer plain drop_merging drop_successive drop_trailing kept_from cut_back strip_of strip heights ladder lower_ring upper_ring lower_first first_is_lower lift joined laid rising shifted least_u greatest_u reseam has_strip across_seam on_strip any_straddles started start first_serving first_from serves serve begins_backward stands_at_the_cut trial turned_unless align_cuts align_at turned_onto nearest first_least slide_to_cut unless_zero turned begun closed least_of greatest_of mean_of sum_of abs_of round_away tube given_of only low_loop high_loop bore onto strip_shift straddles floor_of add sub mul div neg lt le eq ne of_bits of_int inner
tube-steps-upper = refl

-- ---- the later ring is slid to the cut

offset-trial : us (trial r4 0 (record { first = corner r0 r0 A ∷ corner r1 r0 B ∷ corner r2 r0 C ∷ corner r4 r0 A ∷ []; later = corner r1 r0 A ∷ corner r2 r0 B ∷ corner r3 r0 C ∷ corner r5 r0 A ∷ []; holes = [] })).later
    ≡ r0 ∷ r1 ∷ r2 ∷ r4 ∷ []
unfolding trial turned_unless align_cuts align_at turned_onto nearest first_least slide_to_cut unless_zero begun closed abs_of round_away add sub mul div neg lt ne of_bits
offset-trial = refl

-- ---- which ring is lower: of equal means the first, and on a torus the one that goes with the face

tie_of_means : first_is_lower None true false r1 r1 ≡ true
unfolding first_is_lower lt
tie_of_means = refl

swapped : first_is_lower (Some r4) false true r1 r2 ≡ false
unfolding first_is_lower lt
swapped = refl

-- ---- two rings of the period 4, and holes

five : Corners ℕ
five = corner r0 r1 20 ∷ corner r1 r1 21 ∷ corner r2 r1 22 ∷ corner r3 r1 23 ∷ corner r4 r1 20 ∷ []

four : Corners ℕ
four = corner r0 r0 10 ∷ corner r1·5 r0 11 ∷ corner r2 r0 12 ∷ corner r4 r0 10 ∷ []

-- a hole from a to b
slot : Float → Float → ℕ → Corners ℕ
slot a b n = corner a r0 n ∷ corner b r0 (n + 1) ∷ corner b r1 (n + 2) ∷ []

bored : Corners ℕ → Measured ℕ
bored hole = record { corners = hole; wrap = pos 0 }

pierced : List (Corners ℕ) → Given ℕ
pierced holes = record { first = record { corners = five; falls = false }; later = record { corners = four; falls = false }; holes = holes }

-- A bore from -1 to 1 lies across the seam. Brought onto the strip it is from 3 to 5, so that `reseam` finds the gap from 0 to 3, and cuts at 1.5.
drilled : Corners ℕ → Corners ℕ → Given ℕ
drilled first later = record {
  first = record { corners = first; falls = false };
  later = record { corners = later; falls = false };
  holes = slot r_1 r1 31 ∷ [];
}

-- A ring that begins at that cut, and one of which the repeated last point alone reaches it. That point is not quite a period on.
at_cut : Corners ℕ
at_cut = corner r1·5 r0 10 ∷ corner r2 r0 11 ∷ corner r4 r0 12 ∷ corner r5·75 r0 10 ∷ []

before_cut : Corners ℕ
before_cut = corner r0 r0 10 ∷ corner r1 r0 11 ∷ corner r4·5 r0 10 ∷ []

-- rings of three points
three_up : Corners ℕ
three_up = corner r0 r1 20 ∷ corner r2 r1 21 ∷ corner r4 r1 20 ∷ []

three_down : Corners ℕ
three_down = corner r0 r0 10 ∷ corner r2 r0 11 ∷ corner r4 r0 10 ∷ []

-- rings that wrap twice, the upper one of several heights
twice_up : Corners ℕ
twice_up = corner r0 r1 20 ∷ corner r1 r2 21 ∷ corner r5 r3 22 ∷ corner r8 r1 20 ∷ []

twice_down : Corners ℕ
twice_down = corner r0 r0 10 ∷ corner r1 r0 11 ∷ corner r5 r0 12 ∷ corner r8 r0 10 ∷ []

-- the step counts of the pairs that are a step of some ring here: round a loop, and round a lower ring with an upper one read backward
pairs : List (ℕ × ℕ)
pairs = (10, 11) ∷ (11, 12) ∷ (12, 10) ∷ (20, 21) ∷ (21, 22) ∷ (22, 20) ∷ (22, 23) ∷ (23, 20) ∷ []

counts_round : List ℕ → List ℤ
counts_round xs = map (λ (pair : ℕ × ℕ). net eqb pair.0 pair.1 xs) pairs

counts_of : Corners ℕ → Corners ℕ → List ℤ
counts_of lower upper =
    map (λ (pair : ℕ × ℕ). net eqb pair.0 pair.1 (positions lower) +ℤ net eqb pair.0 pair.1 (reverse (positions upper))) pairs

-- the later ring, one turn on
further : Corners ℕ
further = corner r4 r0 10 ∷ corner r5·5 r0 11 ∷ corner r6 r0 12 ∷ corner r8 r0 10 ∷ []

-- a hole from 1 to so far, and from so far to 1
reaches : Float → List Float
reaches far = r1 ∷ far ∷ []

-- ---- starts

-- The first ring begins backward; from its point 1 it begins with a constant-u step, and from its point 2 it ends with it.
late : Face ℕ
late = record {
  first = corner r2 r1 20 ∷ corner r1 r1 21 ∷ corner r1 r1 22 ∷ corner r3 r1 23 ∷ corner r6 r1 20 ∷ [];
  later = corner r0 r0 10 ∷ corner r1 r0 11 ∷ corner r3 r0 12 ∷ corner r4 r0 10 ∷ [];
  holes = [];
}

-- no start of the first ring serves
unserved : Face ℕ
unserved = record {
  first = corner r2 r1 20 ∷ corner r1 r1 21 ∷ corner r1 r1 22 ∷ corner r6 r1 20 ∷ [];
  later = corner r0 r0 10 ∷ corner r1 r0 11 ∷ corner r2 r0 12 ∷ corner r4 r0 10 ∷ [];
  holes = [];
}

-- ---- walls: three steps of `merge_even`, and a position says where it comes from

pub data Spot : Type 0 where
  given : ℕ → Spot
  surface : Float → Float → Spot

thirds : Setting Spot
thirds = record { period = r4; v_period = None; sense = true; same = λ a b. false; point_at = surface; rungs = rungs; steps = λ lo hi. 3 }

abbrev ⅓ : Float
⅓ = of_bits binary64 0x3fd5_5555_5555_5555

abbrev ⅔ : Float
⅔ = of_bits binary64 0x3fe5_5555_5555_5555

-- ---- a torus, period 4 in u and v: one ring rises and one falls, and the rising one is the first

torus : Bool → Setting ℕ
torus sense = record { period = r4; v_period = Some r4; sense = sense; same = eqb; point_at = λ u v. 0; rungs = λ lo hi n. lo ∷ hi ∷ []; steps = λ lo hi. 1 }

rising-at : Float → Float → Given ℕ
rising-at v w = record {
  first = record { corners = corner r0 v 10 ∷ corner r1 v 11 ∷ corner r4 v 10 ∷ []; falls = false };
  later = record { corners = corner r4 w 20 ∷ corner r1 w 21 ∷ corner r0 w 20 ∷ []; falls = true };
  holes = [];
}

-- the strip from the rising ring up to the falling one, and the other way
up_from-rising : Float → Float → Corners ℕ
up_from-rising v w =
    corner r0 v 10 ∷ corner r1 v 11 ∷ corner r4 v 10 ∷ corner r4 v 10
    ∷ corner r4 w 20 ∷ corner r4 w 20 ∷ corner r1 w 21 ∷ corner r0 w 20 ∷ []

up_from_falling : Float → Float → Corners ℕ
up_from_falling w v =
    corner r0 w 20 ∷ corner r1 w 21 ∷ corner r4 w 20 ∷ corner r4 w 20
    ∷ corner r4 v 10 ∷ corner r4 v 10 ∷ corner r1 v 11 ∷ corner r0 v 10 ∷ []

-- ---- the values

record Values : Type 0 where
  -- a ring that lies a turn further comes back to the least u
  one_branch : laid r4 (record { first = record { corners = five; falls = false }; later = record { corners = further; falls = false }; holes = [] })
      ≡ record { first = five; later = four; holes = [] }
  -- "more than 10^-12 below the rings' least u or past that plus the period": 10^-12 on each side is not, the next real is
  not_past : straddles r4 r0 (reaches (of_bits binary64 0x4010_0000_0000_0466)) ≡ false
  past : straddles r4 r0 (reaches (of_bits binary64 0x4010_0000_0000_0467)) ≡ true
  not_below : straddles r4 r0 (reaches (of_bits binary64 0xbd71_9799_812d_ea11)) ≡ false
  below : straddles r4 r0 (reaches (of_bits binary64 0xbd71_9799_812d_ea12)) ≡ true
  -- each hole is there, in file order, the second brought back onto the strip
  two_holes : holes plain (given_of (low_loop ∷ bored (slot r1 r2 31) ∷ high_loop ∷ bored (slot r5 r6 41) ∷ []))
      ≡ slot r1 r2 31 ∷ slot r1 r2 41 ∷ []
  -- 02, N4. A hole from -1 to 1 lies across the seam, and there is one from 0 to 1. The gap is from 1 to 3: each ring is cut anew at its first open point at or
  -- past 2, what comes round is a period up, and the ring closes with its new first point. The second hole begins before the cut, so it comes a period up.
  cut_anew_lem : reseam r4 (laid r4 (pierced (slot r_1 r1 31 ∷ slot r0 r1 41 ∷ [])))
      ≡ record {
        first = corner r2 r1 22 ∷ corner r3 r1 23 ∷ corner r4 r1 20 ∷ corner r5 r1 21 ∷ corner r6 r1 22 ∷ [];
        later = corner r2 r0 12 ∷ corner r4 r0 10 ∷ corner r5·5 r0 11 ∷ corner r6 r0 12 ∷ [];
        holes = slot r3 r5 31 ∷ slot r4 r5 41 ∷ [];
      }
  -- Its band has every corner of both rings: turned with their repeated last points inside, the later ring would lose 11.
  cut_anew_outer : positions (outer plain (pierced (slot r_1 r1 31 ∷ slot r0 r1 41 ∷ [])))
      ≡ 12 ∷ 10 ∷ 11 ∷ 12 ∷ 40 ∷ 50 ∷ 22 ∷ 21 ∷ 20 ∷ 23 ∷ 22 ∷ 50 ∷ 40 ∷ []
  -- "If no open point reaches the cut, or the first one does, the ring stays", its repeated last point as it was given. Here it is the later ring.
  first_at_cut : (reseam r4 (laid r4 (drilled five at_cut))).later ≡ at_cut
  none_at_cut : (reseam r4 (laid r4 (drilled five before_cut))).later ≡ before_cut
  both_wrap : (net_wrap (Some r4) (us at_cut) ≡ pos 1) × (net_wrap (Some r4) (us before_cut) ≡ pos 1)
  -- the first ring is turned all the same
  other_turned : (reseam r4 (laid r4 (drilled five before_cut))).first
      ≡ corner r2 r1 22 ∷ corner r3 r1 23 ∷ corner r4 r1 20 ∷ corner r5 r1 21 ∷ corner r6 r1 22 ∷ []
  -- rings of three points are cut anew too, though `begin_ring_at` would leave them
  three_cut : reseam r4 (laid r4 (drilled three_up three_down))
      ≡ record {
        first = corner r2 r1 21 ∷ corner r4 r1 20 ∷ corner r6 r1 21 ∷ [];
        later = corner r2 r0 11 ∷ corner r4 r0 10 ∷ corner r6 r0 11 ∷ [];
        holes = slot r3 r5 31 ∷ [];
      }
  three_outer : positions (outer plain (drilled three_up three_down)) ≡ 11 ∷ 10 ∷ 11 ∷ 40 ∷ 50 ∷ 21 ∷ 20 ∷ 21 ∷ 50 ∷ 40 ∷ []
  -- Of rings that wrap twice, what comes round is one period up, and the point that closes has the position and v of the new first one, one period up in u. The
  -- first ring then begins backward, and so it is turned once more, to begin at 20.
  wraps_twice : net_wrap (Some r4) (us twice_up) ≡ pos 2
  twice_cut : reseam r4 (laid r4 (drilled twice_up twice_down))
      ≡ record {
        first = corner r5 r3 22 ∷ corner r4 r1 20 ∷ corner r5 r2 21 ∷ corner r9 r3 22 ∷ [];
        later = corner r5 r0 12 ∷ corner r4 r0 10 ∷ corner r5 r0 11 ∷ corner r9 r0 12 ∷ [];
        holes = slot r3 r5 31 ∷ [];
      }
  twice_outer : positions (outer plain (drilled twice_up twice_down)) ≡ 10 ∷ 11 ∷ 12 ∷ 10 ∷ 40 ∷ 50 ∷ 20 ∷ 22 ∷ 21 ∷ 20 ∷ 50 ∷ 40 ∷ []
  -- a hole from -4 to 1 covers the strip and reaches past it: there is no gap, and the rings stay
  no_gap : reseam r4 (laid r4 (pierced (slot r1 r2 31 ∷ slot r_4 r1 41 ∷ [])))
      ≡ record { first = five; later = four; holes = slot r1 r2 31 ∷ slot r0 r5 41 ∷ [] }
  -- point 3 is the first that serves; the later ring begins where it is nearest to it
  start_3 : started r4 late
      ≡ record {
        first = corner r3 r1 23 ∷ corner r6 r1 20 ∷ corner r5 r1 21 ∷ corner r5 r1 22 ∷ corner r7 r1 23 ∷ [];
        later = corner r3 r0 12 ∷ corner r4 r0 10 ∷ corner r5 r0 11 ∷ corner r7 r0 12 ∷ [];
        holes = [];
      }
  -- none of three starts serves: the fallback is the point after a backward step, and else the first
  none_serves : first_serving r4 (bare (r2 ∷ r1 ∷ r1 ∷ r6 ∷ [])) (bare (r0 ∷ r1 ∷ r2 ∷ r4 ∷ [])) ≡ 3
  fallback_past : start r4 (bare (r2 ∷ r1 ∷ r1 ∷ r6 ∷ [])) (bare (r0 ∷ r1 ∷ r2 ∷ r4 ∷ [])) ≡ 1
  fallback_first : start r4 (bare (r1 ∷ r1 ∷ r1 ∷ r5 ∷ [])) (bare (r0 ∷ r1 ∷ r2 ∷ r4 ∷ [])) ≡ 0
  -- both rings as the fallback begins them
  fallback_started : started r4 unserved
      ≡ record {
        first = corner r1 r1 21 ∷ corner r1 r1 22 ∷ corner r6 r1 20 ∷ corner r5 r1 21 ∷ [];
        later = corner r1 r0 11 ∷ corner r2 r0 12 ∷ corner r4 r0 10 ∷ corner r5 r0 11 ∷ [];
        holes = [];
      }
  -- the wall at the lower ring's first u, upward and downward, is the ladder from the lesser v, to the bit: counted from the greater v its rungs have other bits
  wall_rises : positions (strip thirds (corner r1 r0 (given 1) ∷ []) (corner r2 r1 (given 2) ∷ []))
      ≡ given 1 ∷ given 1 ∷ surface r1 ⅓ ∷ surface r1 ⅔ ∷ given 2 ∷ given 2 ∷ surface r1 ⅔ ∷ surface r1 ⅓ ∷ []
  wall_falls : positions (strip thirds (corner r1 r1 (given 1) ∷ []) (corner r2 r0 (given 2) ∷ []))
      ≡ given 1 ∷ given 1 ∷ surface r1 ⅔ ∷ surface r1 ⅓ ∷ given 2 ∷ given 2 ∷ surface r1 ⅓ ∷ surface r1 ⅔ ∷ []
  -- with the face's sense the rising ring is the lower one, and the other is lifted to it; against the sense the falling one
  with_sense : strip_of (torus true) (rising-at r1 r2) ≡ up_from-rising r1 r2
  with_sense_lifted : strip_of (torus true) (rising-at r2 r1) ≡ up_from-rising r2 r5
  against_sense : strip_of (torus false) (rising-at r2 r1) ≡ up_from_falling r1 r2
  against_sense_lifted : strip_of (torus false) (rising-at r1 r2) ≡ up_from_falling r2 r5

values : Values
unfolding strip_of strip heights ladder lower_ring upper_ring lower_first first_is_lower lift joined holes laid rising shifted least_u greatest_u reseam has_strip across_seam on_strip any_straddles gap_of has_gap cut_anew recut first_open_past first_past widest_gap gap_along sorted insert passed usable started start first_serving first_from serves serve begins_backward stands_at_the_cut trial turned_unless align_cuts align_at turned_onto nearest first_least slide_to_cut unless_zero turned begun closed least_of greatest_of mean_of sum_of abs_of round_away plain given_of only low_loop high_loop five four drilled at_cut before_cut three_up three_down twice_up twice_down wrap_every turns_counted to_signed further reaches slot bored pierced late unserved thirds torus rising-at up_from-rising up_from_falling onto strip_shift straddles floor_of add sub mul div neg lt le eq ne of_bits of_int inner rungs ended_on kept_divisions kept_after near slack_of divisions_from division outer drop_merging drop_successive drop_trailing kept_from cut_back
values = record {
  one_branch = refl;
  not_past = refl;
  past = refl;
  not_below = refl;
  below = refl;
  two_holes = refl;
  cut_anew_lem = refl;
  cut_anew_outer = refl;
  first_at_cut = refl;
  none_at_cut = refl;
  both_wrap = (refl, refl);
  other_turned = refl;
  three_cut = refl;
  three_outer = refl;
  wraps_twice = refl;
  twice_cut = refl;
  twice_outer = refl;
  no_gap = refl;
  start_3 = refl;
  none_serves = refl;
  fallback_past = refl;
  fallback_first = refl;
  fallback_started = refl;
  wall_rises = refl;
  wall_falls = refl;
  with_sense = refl;
  with_sense_lifted = refl;
  against_sense = refl;
  against_sense_lifted = refl;
}

-- Of those pairs, the bands of rings that were cut anew have the step counts of the lower ring with those of the upper ring read backward, as both were given.
record Counts : Type 0 where
  cut_anew_counts : counts_round (positions (outer plain (pierced (slot r_1 r1 31 ∷ slot r0 r1 41 ∷ [])))) ≡ counts_of four five
  four_and_five : counts_of four five ≡ pos 1 ∷ pos 1 ∷ pos 1 ∷ negsuc 0 ∷ negsuc 0 ∷ pos 0 ∷ negsuc 0 ∷ negsuc 0 ∷ []
  twice_counts : counts_round (positions (outer plain (drilled twice_up twice_down))) ≡ counts_of twice_down twice_up
  twice_down_and_up : counts_of twice_down twice_up ≡ pos 1 ∷ pos 1 ∷ pos 1 ∷ negsuc 0 ∷ negsuc 0 ∷ negsuc 0 ∷ pos 0 ∷ pos 0 ∷ []

counts : Counts
unfolding pairs counts_round counts_of net net_of count steps_round steps_along five four twice_up twice_down strip_of strip heights ladder lower_ring upper_ring lower_first first_is_lower lift joined holes laid rising shifted least_u greatest_u reseam has_strip across_seam on_strip any_straddles gap_of has_gap cut_anew recut first_open_past first_past widest_gap gap_along sorted insert passed usable started start first_serving first_from serves serve begins_backward stands_at_the_cut trial turned_unless align_cuts align_at turned_onto nearest first_least slide_to_cut unless_zero turned begun closed least_of greatest_of mean_of sum_of abs_of round_away plain given_of only low_loop high_loop drilled at_cut before_cut three_up three_down wrap_every turns_counted to_signed further reaches slot bored pierced late unserved thirds torus rising-at up_from-rising up_from_falling onto strip_shift straddles floor_of add sub mul div neg lt le eq ne of_bits of_int inner rungs ended_on kept_divisions kept_after near slack_of divisions_from division outer drop_merging drop_successive drop_trailing kept_from cut_back
counts = record {
  cut_anew_counts = refl;
  four_and_five = refl;
  twice_counts = refl;
  twice_down_and_up = refl;
}
