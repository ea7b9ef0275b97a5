use native.Mathlib.Omega.{arith}
use Rattle.std.proofs.Common.{◌≡◌, ◌+◌, ◌∙◌, sym, rules}
use Rattle.records.specs.Face.{kind}
use Rattle.records.specs.Limits.{head_range, uv_range, xyz_range}
use Rattle.records.specs.Ranges.{range_of}
use Rattle.records.proofs.Ranges.{range-head, range-uv, range-xyz}
use Rattle.records.proofs.check.first_bad_real.Goals as goal

pub first_outside-requires-clause-ranged : goal.first_outside-requires-clause-ranged
first_outside-requires-clause-ranged c = λ j r h e.
    let q : range_of r ≡ head_range (kind c.args.counted.bytes.now) j = search rules in
    let z : 0 + j ≡ j = omega arith in
    rw z (q ∙ sym (range-head _ _ j h))

pub first_outside-requires-2-clause-ranged : goal.first_outside-requires-2-clause-ranged
first_outside-requires-2-clause-ranged c = λ j r h e.
    let q : range_of r ≡ uv_range (kind c.args.counted.bytes.now) j = search rules in
    let n = c.points-n.ensures.0 in
    q ∙ sym (range-uv _ _ j (omega arith))

pub first_outside-requires-3-clause-ranged : goal.first_outside-requires-3-clause-ranged
first_outside-requires-3-clause-ranged c = λ j r h e.
    let q : range_of r ≡ xyz_range = search rules in
    rw c.points-n.ensures.0 (q ∙ sym (range-xyz _ _ j))
