use Rattle.field.proofs.Instance.{gf, num}
use Rattle.split_test.specs.Splitting.{Spread}
use Rattle.split_test.proofs.spread.Given as goal

abbrev pub invariant-loop-i : goal.invariant-loop-i
invariant-loop-i l = Spread l.f (gf l.f) (num l.f) l.s l.i l.v
