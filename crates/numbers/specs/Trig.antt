-- sin, cos, tan and acos: 01, "Where port and Rust part", items 1 and 2. Each operation is rounded once, in the order written.
use Rattle.std.specs.Prelude.{ℕ, zero, suc, ◌+◌, ◌-◌, ◌*◌, ◌/◌, ◌%◌, true, false, cond, ◌||◌, Float}
use Rattle.std.specs.Float.{nan, inf, fin}
use Rattle.std.specs.Float.Ieee.{up, down, neg, lt, le}
use Rattle.numbers.specs.declared.trig.Series.{Series}
use Rattle.numbers.specs.declared.trig.Series.TheVariants.{Sine, Cosine}
use Rattle.numbers.specs.declared.trig.SinCos.{SinCos}
use Rattle.numbers.specs.Constants.{plus_zero, half, one, thousand, H, PI}
use Rattle.numbers.specs.Rounded.{◌⊕◌, ◌⊖◌, ◌⊗◌, ◌⊘◌, count}
use Rattle.numbers.specs.Round.{round_away}

-- item 1: S divides by 2j(2j+1), and C by (2j-1)2j
abbrev pub divisor_of : Series → ℕ → ℕ
divisor_of Sine j = 2 * j * (2 * j + 1)
divisor_of Cosine j = (2 * j - 1) * (2 * j)

-- item 1: s = 1 - (w·s) / divisor, for j down to 1
unfoldable pub series_from : Series → Float → ℕ → Float → Float
series_from k w zero s = s
series_from k w (suc j) s = series_from k w j (one ⊖ (w ⊗ s) ⊘ count (divisor_of k (suc j)))

-- item 1: q mod 4, taken from 0 to 3, of a whole q
unfoldable pub quarter_of : Float → ℕ
quarter_of nan = 0
quarter_of (inf s) = 0
quarter_of (fin false m e) = m * up e / down e % 4
quarter_of (fin true m e) = (4 - m * up e / down e % 4) % 4

-- item 1: by q mod 4, (sin, cos) = (S, C), (C, -S), (-S, -C), (-C, S)
abbrev pub turned : ℕ → Float → Float → SinCos
turned zero s c = record { sin = s; cos = c }
turned (suc zero) s c = record { sin = c; cos = neg s }
turned (suc (suc zero)) s c = record { sin = neg s; cos = neg c }
turned (suc (suc (suc k))) s c = record { sin = neg c; cos = s }

-- item 1: w = r·r, S = r·s
unfoldable pub reduced_of : Float → Float → SinCos
unfolding series_from quarter_of
reduced_of q r = let w = r ⊗ r in turned (quarter_of q) (r ⊗ series_from Sine w 8 one) (series_from Cosine w 8 one)

-- item 1: q = round(t / H), r = t - q·H
unfoldable pub sincos_in : Float → SinCos
unfolding reduced_of round_away
sincos_in t = let q = round_away (t ⊘ H) in reduced_of q (t ⊖ q ⊗ H)

-- item 1: both 0 for sizes over 1,000
unfoldable pub sincos_of : Float → SinCos
unfolding sincos_in
sincos_of t = let a = sincos_in t in cond (lt thousand t || lt t (neg thousand)) (record { sin = plus_zero; cos = plus_zero }) a

-- item 1: tan is sin / cos
unfoldable pub tan_of : Float → Float
unfolding sincos_of
tan_of t = (sincos_of t).sin ⊘ (sincos_of t).cos

-- item 2: n times m = (lo + hi)·0.5, and lo = m if cos m ≥ c, else hi = m; the answer is lo
unfoldable pub acos_from : Float → ℕ → Float → Float → Float
unfolding sincos_of
acos_from c zero lo hi = lo
acos_from c (suc n) lo hi =
    let m = (lo ⊕ hi) ⊗ half in
    let upper = acos_from c n m hi in
    let lower = acos_from c n lo m in
    cond (le c (sincos_of m).cos) upper lower

unfoldable pub acos_of : Float → Float
unfolding acos_from
acos_of c = acos_from c 60 plus_zero PI
