-- How many corners the strip between two rings has, by theirs and those of a wall.
use Rattle.std.specs.Prelude.{ℕ, ◌+◌, ◌-◌, ◌*◌, ◌^◌, min, cond, eqb}

-- where both rings have corners: with the two where the first wall begins and ends, and `inner` in each wall
abbrev pub count_of : ℕ → ℕ → ℕ → ℕ
count_of lower upper inner = lower + upper + 2 + 2 * inner

-- where one has none, those of the other
unfoldable pub strip_count : ℕ → ℕ → ℕ → ℕ
strip_count lower upper inner = cond (eqb (min lower upper) 0) (lower + upper) (count_of lower upper inner)

-- n, or the greatest number that 64 bits hold
abbrev pub capped : ℕ → ℕ
capped n = min n (2 ^ 64 - 1)
