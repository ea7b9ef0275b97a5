-- The answer as two numbers is that of the judgement.
use Prim.Native.Nat.{ℕ}
use mathlib.Core.Path.{◌≡◌, refl}
use Rattle.std.specs.Prelude.{Result, Ok, Err}
use Rattle.records.specs.Call.{Outcome, refused, closed, code, value}
use Rattle.records.specs.declared.refusal.Refusal.{Refusal}
use Rattle.closer.specs.Returned.{Tells, code_of, value_of}

pub code_is : (o : Outcome) (r : Result ℕ Refusal) → Tells r o → code_of r ≡ code o
code_is (closed b) (Ok n) t = refl
code_is (refused n p) (Err r) t = t.0
code_is (refused n p) (Ok m) t = absurd t
code_is (closed b) (Err r) t = absurd t

pub value_is : (o : Outcome) (r : Result ℕ Refusal) → Tells r o → value_of r ≡ value o
value_is (closed b) (Ok n) t = t
value_is (refused n p) (Err r) t = t.1
value_is (refused n p) (Ok m) t = absurd t
value_is (closed b) (Err r) t = absurd t
