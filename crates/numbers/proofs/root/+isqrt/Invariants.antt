use Rattle.numbers.proofs.root.+isqrt.Given as goal

abbrev pub decreases-isqrt : goal.decreases-isqrt
decreases-isqrt l = l.bits
