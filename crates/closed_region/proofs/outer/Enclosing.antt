-- One box held against another, and against the outermost ends of two, within a slack that is not negative: ends that are NaNs or infinite included.
use mathlib.Core.Path.{◌≡◌, refl}
use mathlib.Core.Bool.{Bool, true, false, cond, ◌&&◌}
use mathlib.Core.List.{List, [], ◌∷◌, foldl}
use lib.Dec.{T}
use lib.IntN.{negsuc}
use lib.Ieee.{Float, inf, le, lt, of_bits}
use lib.Ieee.Fits.{and_i, and_l, and_r}
use Rattle.numbers.specs.Constants.{plus_zero, 10^-9}
use Rattle.numbers.specs.Order.{min_of, max_of}
use Rattle.numbers.specs.Rounded.{◌⊕◌, ◌⊖◌}
use Rattle.numbers.proofs.Signed.{number, le_numbers, le_top, le_bottom, le_trans_float, le_of_less, le_of_not_less, le_refl}
use Rattle.numbers.proofs.Monotone.{Zero, Positive}
use Rattle.numbers.proofs.Zeros.{plus_zero_is}
use Rattle.numbers.proofs.Infinities.{add_summand, add_mono_number, add_grows, top_plus, sub_summand, sub_mono_number, sub-falls, bottom_minus, mul_nonneg, le-max}
use Rattle.closed_region.specs.declared.boxes.Bounds.{Bounds}
use Rattle.closed_region.specs.Outer.{side_of, slack_of, encloses}
use Rattle.closed_region.specs.ByOutermost.{Fits, empty_box, hull_of, enclosable}

-- ---- the slack is a number, and not negative
billionth_positive : Positive 10^-9
unfolding of_bits
billionth_positive = record { size = 0x1_12e0_be82_6d694; expo = negsuc 81; is = refl }

sides_nonneg : (boxes : List Bounds) (a : Float) → T (le Zero a) → T (le Zero (foldl (λ largest b. max_of largest (side_of b)) a boxes))
sides_nonneg [] a h = h
sides_nonneg (b ∷ bs) a h = sides_nonneg bs (max_of a (side_of b)) (le-max Zero a (side_of b) h)

pub slack_nonneg : (boxes : List Bounds) → T (le Zero (slack_of boxes))
unfolding slack_of
slack_nonneg boxes = mul_nonneg _ 10^-9 billionth_positive (sides_nonneg boxes plus_zero (rw plus_zero_is (le_refl Zero tt)))

-- ---- a lower end held against the lesser of two, an upper one against the greater
module _ (slack a b x : Float) where
  low_each : T (number (a ⊕ slack)) → T (number (b ⊕ slack)) → T (le x (min_of a b ⊕ slack)) → T (le x (a ⊕ slack)) × T (le x (b ⊕ slack))
  low_each p q h = go (lt b a) refl h
    where
      go : (w : Bool) → lt b a ≡ w → T (le x (cond w b a ⊕ slack)) → T (le x (a ⊕ slack)) × T (le x (b ⊕ slack))
      go true e k = (le_trans_float x (b ⊕ slack) (a ⊕ slack) k (add_mono_number slack b a q p (le_of_less b a e)), k)
      go false e k =
          let up = le_of_not_less a b (add_summand slack a p) (add_summand slack b q) e in
          (k, le_trans_float x (a ⊕ slack) (b ⊕ slack) k (add_mono_number slack a b p q up))

  high_each : T (number (a ⊖ slack)) → T (number (b ⊖ slack)) → T (le (max_of a b ⊖ slack) x) → T (le (a ⊖ slack) x) × T (le (b ⊖ slack) x)
  high_each p q h = go (lt a b) refl h
    where
      go : (w : Bool) → lt a b ≡ w → T (le (cond w b a ⊖ slack) x) → T (le (a ⊖ slack) x) × T (le (b ⊖ slack) x)
      go true e k = (le_trans_float (a ⊖ slack) (b ⊖ slack) x (sub_mono_number slack a b p q (le_of_less a b e)) k, k)
      go false e k =
          let down = le_of_not_less b a (sub_summand slack b q) (sub_summand slack a p) e in
          (k, le_trans_float (b ⊖ slack) (a ⊖ slack) x (sub_mono_number slack b a q p down) k)

-- what holds of both holds of the one that is chosen
chosen : (P : Float → Type 0) (a b : Float) (w : Bool) → P a → P b → P (cond w b a)
chosen P a b true p q = q
chosen P a b false p q = p

module _ (slack : Float) where
  -- ---- the four tests of one box held against another
  pub record Encloses (b o : Bounds) : Type 0 where
    pub ulo : T (le b.ulo (o.ulo ⊕ slack))
    pub uhi : T (le (o.uhi ⊖ slack) b.uhi)
    pub vlo : T (le b.vlo (o.vlo ⊕ slack))
    pub vhi : T (le (o.vhi ⊖ slack) b.vhi)

  module _ (b o : Bounds) where
    abbrev ulo : Bool
    ulo = le b.ulo (o.ulo ⊕ slack)

    abbrev uhi : Bool
    uhi = le (o.uhi ⊖ slack) b.uhi

    abbrev vlo : Bool
    vlo = le b.vlo (o.vlo ⊕ slack)

    abbrev vhi : Bool
    vhi = le (o.vhi ⊖ slack) b.vhi

    pub tests : T (encloses slack b o) → Encloses b o
    unfolding encloses
    tests t =
        let u = and_r ulo (uhi && (vlo && vhi)) t in
        let v = and_r uhi (vlo && vhi) u in
        record { ulo = and_l ulo (uhi && (vlo && vhi)) t; uhi = and_l uhi (vlo && vhi) u; vlo = and_l vlo vhi v; vhi = and_r vlo vhi v }

    pub tested : Encloses b o → T (encloses slack b o)
    unfolding encloses
    tested e = and_i ulo (uhi && (vlo && vhi)) e.ulo (and_i uhi (vlo && vhi) e.uhi (and_i vlo vhi e.vlo e.vhi))

  -- ---- a box whose ends are numbers when the slack has moved them
  pub record Movable (o : Bounds) : Type 0 where
    ulo : T (number (o.ulo ⊕ slack))
    uhi : T (number (o.uhi ⊖ slack))
    vlo : T (number (o.vlo ⊕ slack))
    vhi : T (number (o.vhi ⊖ slack))

  pub movable : (b o : Bounds) → Encloses b o → Movable o
  movable b o e = record {
    ulo = (le_numbers b.ulo (o.ulo ⊕ slack) e.ulo).1;
    uhi = (le_numbers (o.uhi ⊖ slack) b.uhi e.uhi).0;
    vlo = (le_numbers b.vlo (o.vlo ⊕ slack) e.vlo).1;
    vhi = (le_numbers (o.vhi ⊖ slack) b.vhi e.vhi).0;
  }

  -- ---- the outermost ends of two boxes
  module _ (a o : Bounds) where
    pub hull_movable : Movable a → Movable o → Movable (hull_of a o)
    hull_movable p q = record {
      ulo = chosen (λ x. T (number (x ⊕ slack))) a.ulo o.ulo (lt o.ulo a.ulo) p.ulo q.ulo;
      uhi = chosen (λ x. T (number (x ⊖ slack))) a.uhi o.uhi (lt a.uhi o.uhi) p.uhi q.uhi;
      vlo = chosen (λ x. T (number (x ⊕ slack))) a.vlo o.vlo (lt o.vlo a.vlo) p.vlo q.vlo;
      vhi = chosen (λ x. T (number (x ⊖ slack))) a.vhi o.vhi (lt a.vhi o.vhi) p.vhi q.vhi;
    }

    -- what encloses both encloses their outermost ends, and the other way round
    pub hull_enclosed : (b : Bounds) → Encloses b a → Encloses b o → Encloses b (hull_of a o)
    hull_enclosed b p q = record {
      ulo = chosen (λ x. T (le b.ulo (x ⊕ slack))) a.ulo o.ulo (lt o.ulo a.ulo) p.ulo q.ulo;
      uhi = chosen (λ x. T (le (x ⊖ slack) b.uhi)) a.uhi o.uhi (lt a.uhi o.uhi) p.uhi q.uhi;
      vlo = chosen (λ x. T (le b.vlo (x ⊕ slack))) a.vlo o.vlo (lt o.vlo a.vlo) p.vlo q.vlo;
      vhi = chosen (λ x. T (le (x ⊖ slack) b.vhi)) a.vhi o.vhi (lt a.vhi o.vhi) p.vhi q.vhi;
    }

    pub hull_each : (b : Bounds) → Movable a → Movable o → Encloses b (hull_of a o) → Encloses b a × Encloses b o
    hull_each b p q e =
        let ul = low_each slack a.ulo o.ulo b.ulo p.ulo q.ulo e.ulo in
        let uh = high_each slack a.uhi o.uhi b.uhi p.uhi q.uhi e.uhi in
        let vl = low_each slack a.vlo o.vlo b.vlo p.vlo q.vlo e.vlo in
        let vh = high_each slack a.vhi o.vhi b.vhi p.vhi q.vhi e.vhi in
        (record { ulo = ul.0; uhi = uh.0; vlo = vl.0; vhi = vh.0 }, record { ulo = ul.1; uhi = uh.1; vlo = vl.1; vhi = vh.1 })

  module _ (nonneg : T (le Zero slack)) where
    -- ---- the outermost ends of no boxes
    pub empty_movable : Movable empty_box
    empty_movable = record { ulo = rw top tt; uhi = rw bottom tt; vlo = rw top tt; vhi = rw bottom tt }
      where
        top : inf false ⊕ slack ≡ inf false
        top = top_plus slack nonneg

        bottom : inf true ⊖ slack ≡ inf true
        bottom = bottom_minus slack nonneg

    -- what encloses some box encloses them
    pub empty_enclosed : (b o : Bounds) → Encloses b o → Encloses b empty_box
    empty_enclosed b o e = record {
      ulo = rw (top_plus slack nonneg) (le_top b.ulo (le_numbers b.ulo (o.ulo ⊕ slack) e.ulo).0);
      uhi = rw (bottom_minus slack nonneg) (le_bottom b.uhi (le_numbers (o.uhi ⊖ slack) b.uhi e.uhi).1);
      vlo = rw (top_plus slack nonneg) (le_top b.vlo (le_numbers b.vlo (o.vlo ⊕ slack) e.vlo).0);
      vhi = rw (bottom_minus slack nonneg) (le_bottom b.vhi (le_numbers (o.vhi ⊖ slack) b.vhi e.vhi).1);
    }

    -- ---- a box that another encloses encloses itself
    pub enclosed_enclosable : (b o : Bounds) → Fits o → T (encloses slack b o) → T (enclosable slack o)
    enclosed_enclosable b o f t =
        let m = movable b o (tests b o t) in
        tested o o (record {
          ulo = add_grows o.ulo slack f.ulo nonneg m.ulo;
          uhi = sub-falls o.uhi slack f.uhi nonneg m.uhi;
          vlo = add_grows o.vlo slack f.vlo nonneg m.vlo;
          vhi = sub-falls o.vhi slack f.vhi nonneg m.vhi;
        })
