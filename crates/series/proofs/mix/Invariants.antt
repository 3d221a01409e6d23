use Rattle.algebra.proofs.Array.{Mixed}
use Rattle.field.specs.Field.{a^}
use Rattle.field.proofs.Instance.{gf, num}
use Rattle.series.proofs.mix.Given as goal

abbrev pub invariant-loop-i : goal.invariant-loop-i
invariant-loop-i l = Mixed (gf l.f) (num l.f) l.initial.c l.u (a^ l.f l.e) l.gap l.c l.i
