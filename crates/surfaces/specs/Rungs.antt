-- The rungs of `merge_even` (`knots.rs`) for no breaks (01, item 4): the even divisions of a stretch, less those too near the one kept before; where the two
-- ends differ, ended on the upper one (02, N2). Callers use the laws of proofs/knots.
-- The Rust sorts the divisions first. Where lo ≤ hi, where lo, hi and hi - lo are finite and n is at most 2 ^ 53, that changes nothing (proofs/knots/Rising.antt); 01 leaves the rest free.
use Rattle.std.specs.Prelude.{◌≡◌, ℕ, zero, suc, ◌+◌, ◌-◌, ◌<◌, max, Bool, true, cond, List, [], ◌∷◌, ◌++◌, length, drop, nat_le, slice_index_or, slice_set, Float}
use mathlib.Core.List.{drop_last}
use Rattle.std.specs.Float.{nan}
use Rattle.std.specs.Float.Ieee.{le, ne}
use Rattle.numbers.specs.Constants.{10^-9}
use Rattle.numbers.specs.Rounded.{◌⊕◌, ◌⊖◌, ◌⊗◌, ◌⊘◌, count}
use Rattle.numbers.specs.Order.{abs_of}
use Rattle.surfaces.specs.declared.knots.KeptDivisions.{KeptDivisions}

-- the division i of n: lo + (hi - lo) * i / max(n, 1), each operation rounded once
unfoldable pub division : Float → Float → ℕ → ℕ → Float
division lo hi n i = lo ⊕ (hi ⊖ lo) ⊗ count i ⊘ count (max n 1)

-- k of them, from that of number i on
unfoldable pub divisions_from : Float → Float → ℕ → ℕ → ℕ → List Float
divisions_from lo hi n i zero = []
divisions_from lo hi n i (suc k) = division lo hi n i ∷ divisions_from lo hi n (suc i) k

-- from 0 to n
abbrev pub divisions : Float → Float → ℕ → List Float
divisions lo hi n = divisions_from lo hi n 0 (suc n)

unfoldable pub slack_of : Float → Float → Float
slack_of lo hi = abs_of (hi ⊖ lo) ⊗ 10^-9

unfoldable pub near : Float → Float → Float → Bool
near slack x last = le (abs_of (x ⊖ last)) slack

-- what is kept of xs where `last` was kept before: each x that is not near the one kept before it
unfoldable pub kept_after : Float → Float → List Float → List Float
kept_after slack last [] = []
kept_after slack last (x ∷ xs) =
    let dropped = near slack x last in
    let rest = kept_after slack (cond dropped last x) xs in
    cond dropped rest (x ∷ rest)

-- the first, and what is kept after it
abbrev pub kept : Float → List Float → List Float
kept slack [] = []
kept slack (x ∷ xs) = x ∷ kept_after slack x xs

unfoldable pub kept_divisions : Float → Float → ℕ → List Float
kept_divisions lo hi n = kept (slack_of lo hi) (divisions lo hi n)

-- what the iterator has still to give of them
unfoldable pub kept_left : KeptDivisions → List Float
kept_left s = kept_after s.slack s.last (divisions_from s.lo s.hi s.n (suc s.passed) (s.n - s.passed))

-- 02, N2: "the last rung kept is set to it, or it is added after a lone lower bound"
unfoldable pub ended_on : Float → List Float → List Float
ended_on hi ks = cond (nat_le (length ks) 1) ks (drop_last ks) ++ (hi ∷ [])

-- 02, N2: "`merge_even` now ends on its upper bound itself, whenever the bounds differ", as numbers
unfoldable pub rungs : Float → Float → ℕ → List Float
rungs lo hi n =
    let ks = kept_divisions lo hi n in
    cond (ne lo hi) (ended_on hi ks) ks

-- where lo and hi differ, xs is k reals and then hi itself, to the bit
abbrev pub EndsOn : Float → Float → ℕ → List Float → Type 0
EndsOn lo hi k xs = ne lo hi ≡ true → (ys : List Float) × (length ys ≡ k) × (xs ≡ ys ++ (hi ∷ []))

-- where they differ: of a slice whose first place takes the rung of number `from`, the place that takes the last one holds hi, if there is such a place
abbrev pub EndWritten : Float → Float → ℕ → ℕ → List Float → Type 0
EndWritten lo hi n from out = ne lo hi ≡ true → (k : ℕ) → from + suc k ≡ length (rungs lo hi n) → k < length out → slice_index_or out k nan ≡ hi

-- all but the first and the last
unfoldable pub inner : List Float → List Float
inner xs = drop_last (drop 1 xs)

-- os with x in the place k - from, where there is one
unfoldable pub placed : ℕ → ℕ → Float → List Float → List Float
placed from k x os = cond (nat_le from k) (slice_set os (k - from) x) os
