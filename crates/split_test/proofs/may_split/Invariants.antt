use Prim.Native.Nat.{suc}
use Rattle.split_test.proofs.Splitting.{Raised}
use Rattle.split_test.proofs.may_split.Given as goal

abbrev pub invariant-loop-k : goal.invariant-loop-k
invariant-loop-k l = Raised l.f l.c (suc (suc l.d)) l.k l.s
