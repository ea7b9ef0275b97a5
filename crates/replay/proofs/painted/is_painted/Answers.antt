use mathlib.Core.Path.{refl, sym, ◌∙◌}
use mathlib.Core.Bool.{true≢false}
use Rattle.replay.proofs.Painting.{seen_end, seen_other}
use Rattle.replay.proofs.painted.is_painted.Goals as goal

pub returns-then-bytes-i : goal.returns-then-bytes-i
returns-then-bytes-i c = record {
  painted = λ e. absurd (true≢false (sym e));
  value = seen_other c.loop-i.invariant c.loop-i-test.true (λ e. c.if-bytes-i.true (e ∙ sym c.shade.ensures));
}

pub returns : goal.returns
returns c = record {
  painted = λ e. seen_end c.loop-i.invariant c.loop-i-test.false;
  value = λ p. refl;
}
