use Prim.Native.Nat.{suc}
use Rattle.split_test.proofs.Splitting.{Reducing}
use Rattle.split_test.proofs.reduced.Given as goal

abbrev pub invariant-loop-i : goal.invariant-loop-i
invariant-loop-i l = Reducing l.f l.c (suc l.n) l.initial.v l.n l.i l.v
