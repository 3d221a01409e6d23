use Rattle.split_test.specs.Splitting.{Lowered}
use Rattle.split_test.proofs.lowered.Given as goal

abbrev pub invariant-loop-i : goal.invariant-loop-i
invariant-loop-i l = Lowered l.t l.from l.i l.v
