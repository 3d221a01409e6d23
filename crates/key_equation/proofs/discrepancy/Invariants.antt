use Rattle.algebra.specs.Array.{dot}
use Rattle.field.proofs.Instance.{gf, num}
use Rattle.series.specs.Series.{Represents}
use Rattle.key_equation.proofs.discrepancy.Given as goal

abbrev pub invariant-loop-i : goal.invariant-loop-i
invariant-loop-i l = Represents l.f (gf l.f) (num l.f) (dot (gf l.f) (num l.f) l.c l.s l.k l.i) l.sum
