use Rattle.std.proofs.Common.{◌+◌, length, ap, sym, ◌∙◌, arith, rules}
use Rattle.std.proofs.lemmas.List.{length-append}
use Rattle.tables.specs.Rows.{rows}
use Rattle.tables.specs.Loops.{loops_in}
use Rattle.tables.proofs.LoopLaws.{loops_counted}
use Rattle.tables.proofs.Rows.{length-rows}
use Rattle.holes.specs.Others.{is_ring}
use Rattle.holes.proofs.Later.{later, later-ring, later-hole, later-none, all-fit}
use Rattle.holes.proofs.rows.count_rows.Goals as goal

pub loop-i-init-derived : goal.loop-i-init-derived
loop-i-init-derived c = let many = loops_counted c.args.loops in search rules

pub overflow_add-sum : goal.overflow_add-sum
overflow_add-sum c =
    let s = c.in-Some.ensures.steps in
    let hole = ap (is_ring c.args.a c.args.b) (sym s.1) ∙ sym c.is_ring.ensures ∙ c.if-not-is_ring.true in
    let one = rows c.in-Some.one.now in
    let rest = loops_in c.next.new.self.iter in
    let left = later-hole c.args.a c.args.b c.loop-i.i-iterator.count (loops_in c.loop-i.i-iterator.iter) one rest s.0 hole in
    let long = ap length left ∙ length-append one (later c.args.a c.args.b (c.loop-i.i-iterator.count + 1) rest) in
    omega (arith, c.loop-i.invariant, long, length-rows c.in-Some.one.now, all-fit c.args.a c.args.b c.args.loops.counts.now (rows c.args.loops.corners.now), length-rows c.args.loops.corners.now)

pub loop-i-preserved-then-not-is_ring : goal.loop-i-preserved-then-not-is_ring
loop-i-preserved-then-not-is_ring c =
    let s = c.in-Some.ensures.steps in
    let hole = ap (is_ring c.args.a c.args.b) (sym s.1) ∙ sym c.is_ring.ensures ∙ c.if-not-is_ring.true in
    let one = rows c.in-Some.one.now in
    let rest = loops_in c.next.new.self.iter in
    let left = later-hole c.args.a c.args.b c.loop-i.i-iterator.count (loops_in c.loop-i.i-iterator.iter) one rest s.0 hole in
    let long = ap length left ∙ length-append one (later c.args.a c.args.b (c.loop-i.i-iterator.count + 1) rest) in
    rw s.2 (omega (arith, c.loop-i.invariant, long, length-rows c.in-Some.one.now))

pub loop-i-preserved : goal.loop-i-preserved
loop-i-preserved c =
    let s = c.in-Some.ensures.steps in
    let ring = ap (is_ring c.args.a c.args.b) (sym s.1) ∙ sym c.is_ring.ensures ∙ c.if-not-is_ring.false in
    let left = later-ring c.args.a c.args.b c.loop-i.i-iterator.count (loops_in c.loop-i.i-iterator.iter) (rows c.in-Some.one.now) (loops_in c.next.new.self.iter) s.0 ring in
    rw s.2 (ap (λ w. c.loop-i.sum + length w) (sym left) ∙ c.loop-i.invariant)

pub returns : goal.returns
returns c =
    let none = ap length (later-none c.args.a c.args.b c.loop-i.i-iterator.count (loops_in c.loop-i.i-iterator.iter) c.in-None.ensures.steps.0.0) in (
      omega (arith, c.loop-i.invariant, none),
      omega (arith, c.loop-i.invariant, none, all-fit c.args.a c.args.b c.args.loops.counts.now (rows c.args.loops.corners.now)),
    )
