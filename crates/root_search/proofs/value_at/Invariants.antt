use Rattle.algebra.specs.Polynomial.{pow, value}
use Rattle.field.proofs.Instance.{gf, a, num}
use Rattle.series.specs.Series.{Represents}
use Rattle.series.proofs.Element.{series}
use Rattle.root_search.proofs.value_at.Given as goal

abbrev pub invariant-loop-i : goal.invariant-loop-i
invariant-loop-i l = Represents l.f (gf l.f) (num l.f) (value (gf l.f) (series l.f l.c) (pow (gf l.f) (a l.f) l.p) l.i) l.v
