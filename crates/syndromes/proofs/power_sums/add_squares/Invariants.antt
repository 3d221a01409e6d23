use Rattle.syndromes.proofs.PowerSums.{Squaring}
use Rattle.syndromes.proofs.power_sums.add_squares.Given as goal

abbrev pub invariant-loop-i : goal.invariant-loop-i
invariant-loop-i l = Squaring l.f l.initial.sums l.i l.sums
