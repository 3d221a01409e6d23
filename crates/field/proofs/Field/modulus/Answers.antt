use mathlib.Core.Path.{sym, ap}
use Rattle.field.specs.Field.{modulus}
use Rattle.field.proofs.Field.modulus.Goals as goal

pub returns-in-Thirteen : goal.returns-in-Thirteen
unfolding modulus
returns-in-Thirteen c = sym (ap modulus c.in-Thirteen.is)

pub returns-in-Fourteen : goal.returns-in-Fourteen
unfolding modulus
returns-in-Fourteen c = sym (ap modulus c.in-Fourteen.is)
