use mathlib.Core.Path.{sym, ap}
use Rattle.field.specs.Field.{degree}
use Rattle.field.proofs.Field.degree.Goals as goal

pub returns-in-Thirteen : goal.returns-in-Thirteen
unfolding degree
returns-in-Thirteen c = sym (ap degree c.in-Thirteen.is)

pub returns-in-Fourteen : goal.returns-in-Fourteen
unfolding degree
returns-in-Fourteen c = sym (ap degree c.in-Fourteen.is)
