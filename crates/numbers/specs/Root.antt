-- The square root of a whole number, cut.
use Rattle.std.specs.Prelude.{◌≡◌, ℕ, zero, suc, ◌+◌, ◌*◌, ◌/◌, ◌^◌, ◌<◌, ◌≤◌, cond, nat_le}
use Rattle.std.specs.Float.Ieee.{size}

-- w is the whole root of n
pub record IsRoot (n w : ℕ) : Type 0 where
  pub low : w * w ≤ n
  pub high : n < (w + 1) * (w + 1)

-- the root of n, of at most f digits, from that of n / 4
unfoldable pub digits : ℕ → ℕ → ℕ
digits zero n = 0
digits (suc f) n = let r = digits f (n / 4) in cond (nat_le ((2 * r + 1) * (2 * r + 1)) n) (2 * r + 1) (2 * r)

-- the root of n: `root_is` shows that it is the one
unfoldable pub root_of : ℕ → ℕ
unfolding digits
root_of n = digits (size n) n

-- ---- what the functions on whole numbers ensure
-- the root q of n, and what is left
pub record Rooted (n q r : ℕ) : Type 0 where
  pub whole : q * q + r ≡ n
  pub rest : r ≤ 2 * q

-- the same of one digit d of base 4 more
pub record Digit (q r d q' r' : ℕ) : Type 0 where
  pub whole : q' * q' + r' ≡ 4 * (q * q + r) + d
  pub rest : r' ≤ 2 * q'

-- m with z digits 0 of base 4 behind it has 53 digits
pub record Padded (m z : ℕ) : Type 0 where
  pub least : 4 ^ 52 ≤ m * 4 ^ z
  pub under : m * 4 ^ z < 4 ^ 53
  pub few : z ≤ 52
