-- What is known of a result, by its two cases.
use mathlib.Core.Path.{◌≡◌, refl}
use Rattle.std.specs.Prelude.{Result, Ok, Err}
use Rattle.std.specs.Result.{MatchResult}

pub by_cases : {A E G : Type 0} (r : Result A E) {N : A → Type 0} {Q : E → Type 0} → MatchResult r N Q
    → ((x : A) → r ≡ Ok x → N x → G) → ((e : E) → r ≡ Err e → Q e → G) → G
by_cases (Ok x) h of_ok of_err = of_ok x refl h
by_cases (Err e) h of_ok of_err = of_err e refl h
