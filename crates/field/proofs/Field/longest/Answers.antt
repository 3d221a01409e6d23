use mathlib.Core.Path.{sym, ap}
use Rattle.field.specs.Field.{longest}
use Rattle.field.proofs.Field.longest.Goals as goal

pub returns-in-Thirteen : goal.returns-in-Thirteen
unfolding longest
returns-in-Thirteen c = sym (ap longest c.in-Thirteen.is)

pub returns-in-Fourteen : goal.returns-in-Fourteen
unfolding longest
returns-in-Fourteen c = sym (ap longest c.in-Fourteen.is)
