-- The pattern in lent bytes.
use Rattle.std.specs.Prelude.{ℕ, ◌%◌, ◌≤◌, ◌<◌, ◌≡◌, List, length, get_or}

-- each byte from place `from` on is that of the pattern
unfoldable pub Painted : ℕ → List ℕ → Type 0
Painted from bytes = (i : ℕ) → from ≤ i → i < length bytes → get_or bytes i 0 ≡ i % 251
