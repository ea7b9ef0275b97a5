-- Four bytes hold the place of every refused call.
use Prim.Native.Nat.{ℕ, zero, suc, ◌^◌, ◌<◌}
use mathlib.Core.Path.{◌≡◌, refl, ap, ◌∙◌}
use mathlib.Core.List.{List}
use native.Mathlib.Nat.{zero-lt-suc}
use native.Mathlib.Omega.{arith}
use Rattle.records.specs.Call.{Outcome, refused, value}
use Rattle.call.specs.Demands.{Demand1}
use Rattle.std.specs.Prelude.{Result}
use Rattle.records.specs.declared.refusal.Refusal.{Refusal}
use Rattle.closer.specs.Returned.{Tells, code_of, value_of}
use Rattle.closer.proofs.Numbers.{value_is}

-- a length is small too
value_small : (s old : List ℕ) (code value : ℕ) (new : List ℕ) → Demand1 s old code value new → value < 2 ^ 32
value_small s old zero value new d = let f = (d.closed_complete refl).fits in omega arith
value_small s old (suc n) value new d = d.refused_fits (zero-lt-suc n)

pub four-bytes_hold : (o : Outcome) (s old : List ℕ) (r : Result ℕ Refusal) {new : List ℕ} → Tells r o → Demand1 s old (code_of r) (value_of r) new
    → (number place : ℕ) → o ≡ refused number place → place < 2 ^ 32
four-bytes_hold o s old r {new} answered d number place e =
    let v : value_of r ≡ place = value_is o r answered ∙ ap value e in
    let small = value_small s old (code_of r) (value_of r) new d in
    omega arith
