use mathlib.Core.Path.{sym, ap}
use native.Mathlib.Omega.{arith}
use Rattle.field.specs.Field.{chosen}
use Rattle.field.proofs.Chosen.{chosen-unknown}
use Rattle.field.proofs.Field.choose.Goals as goal

pub returns-in-0 : goal.returns-in-0
unfolding chosen
returns-in-0 c = sym (ap chosen c.in-0.is)

pub returns-in-1 : goal.returns-in-1
unfolding chosen
returns-in-1 c = sym (ap chosen c.in-1.is)

pub returns-in_default : goal.returns-in_default
returns-in_default c = sym (chosen-unknown _ (omega arith) (omega arith))
