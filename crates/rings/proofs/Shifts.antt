-- What `strip_shift` answers, and what is left of a hole's distance from the strip.
use mathlib.Core.Path.{◌≡◌, subst}
use mathlib.Core.Bool.{true}
use mathlib.Core.List.{List}
use lib.Ieee.{Float, binary64, fits}
use Rattle.numbers.specs.Round.{floor_of}
use Rattle.numbers.specs.Rounded.{◌⊖◌, ◌⊗◌, ◌⊘◌}
use Rattle.loops.specs.Branch.{LeavesTurn}
use Rattle.loops.specs.Span.{least_of}
use Rattle.loops.proofs.Landing.{turn_answer}
use Rattle.rings.specs.Choices.{strip_shift}

pub strip_answer : (period lo least turns : Float) (us : List Float) → fits binary64 least ≡ true → fits binary64 lo ≡ true
    → least ≡ least_of us → turns ≡ floor_of ((least ⊖ lo) ⊘ period)
    → (turns ⊗ period ≡ strip_shift period lo us) × LeavesTurn (least_of us) lo period (turns ⊗ period)
unfolding strip_shift
strip_answer period lo least turns us f g least_is turns-are =
    let is : turns ⊗ period ≡ floor_of ((least_of us ⊖ lo) ⊘ period) ⊗ period = rw (turns-are, least_is) in
    (is, turn_answer (least_of us) lo period (turns ⊗ period) (subst (λ (x : Float). fits binary64 x ≡ true) least_is f) g is)
