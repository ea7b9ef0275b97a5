use Rattle.std.proofs.Common.{◌≡◌, ℕ, suc, ◌+◌, ◌-◌, Bool, true, false, cond, sym, refl, ◌∙◌, arith}
use lib.Ieee.{Float, binary64, add, mul, le}
use Rattle.numbers.specs.Constants.{half}
use Rattle.numbers.specs.Trig.{sincos_of, acos_from, acos_of}
use Rattle.numbers.proofs.trig.acos.Goals as goal
use Rattle.numbers.proofs.trig.acos.Goals.{then-cos-c, else-cos-c}

abbrev mid : Float → Float → Float
mid lo hi = mul binary64 (add binary64 lo hi) half

-- one turn of n, where m are left after it
turn : (c lo hi : Float) (n m : ℕ) {a : Float} (t : Bool) → n ≡ suc m → a ≡ (sincos_of (mid lo hi)).cos → le c a ≡ t
    → acos_from c n lo hi ≡ cond t (acos_from c m (mid lo hi) hi) (acos_from c m lo (mid lo hi))
unfolding acos_from
turn c lo hi n m t e k h = rw (e, ← k, h)

pub loop-init : goal.loop-init
unfolding acos_of
loop-init c = refl

pub loop-preserved : goal.loop-preserved
loop-preserved c = let l = c.loop in
    elim c.if-cos-c.branch [
      | then-cos-c w ↦ rw (w.lo-is, w.hi-is) (sym (turn c.args.c l.lo l.hi (60 - l.counter) (60 - (l.counter + 1)) true (omega arith) c.cos.ensures w.if-cos-c.true) ∙ l.invariant)
      | else-cos-c w ↦ rw (w.lo-is, w.hi-is) (sym (turn c.args.c l.lo l.hi (60 - l.counter) (60 - (l.counter + 1)) false (omega arith) c.cos.ensures w.if-cos-c.false) ∙ l.invariant)
    ]

pub returns : goal.returns
unfolding acos_from
returns c = let none : 60 - c.loop.counter ≡ 0 = omega arith in rw none at c.loop.invariant
