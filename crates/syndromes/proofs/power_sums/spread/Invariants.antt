use Rattle.syndromes.proofs.Spreading.{Spreading}
use Rattle.syndromes.proofs.power_sums.spread.Given as goal

abbrev pub invariant-loop-i : goal.invariant-loop-i
invariant-loop-i l = Spreading l.t l.lanes l.i l.sums
