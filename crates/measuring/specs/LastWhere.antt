-- The last of some numbers at which a test is true, as `first_where` is the first: the ring of a band that is taken first.
use Rattle.std.specs.Prelude.{ℕ, zero, suc, Bool, cond}
use Rattle.records.specs.Refusals.{Place, nowhere, at}

-- of 0, .., n - 1
unfoldable pub last_where : ℕ → (ℕ → Bool) → Place
last_where zero test = nowhere
last_where (suc n) test = cond (test n) (at n) (last_where n test)
