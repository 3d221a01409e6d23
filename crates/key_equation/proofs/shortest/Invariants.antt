use Rattle.algebra.specs.Array.{Holds}
use Rattle.field.proofs.Instance.{gf, num}
use Rattle.key_equation.proofs.shortest.Given as goal

abbrev pub invariant-loop-h : goal.invariant-loop-h
invariant-loop-h l = Holds (gf l.f) (num l.f) l.s l.h l.r.len l.r.b l.c l.u l.r.gap
