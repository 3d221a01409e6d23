use Rattle.syndromes.proofs.PowerSums.{Adding}
use Rattle.syndromes.proofs.power_sums.add_powers.Given as goal

abbrev pub invariant-loop-i : goal.invariant-loop-i
invariant-loop-i l = Adding l.f l.initial.sums l.p l.i l.e l.sums
