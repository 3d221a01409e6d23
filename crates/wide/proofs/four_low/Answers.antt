use mathlib.Core.Path.{refl}
use Rattle.wide.proofs.Steps.{four-joined}
use Rattle.wide.proofs.four_low.Goals as goal

pub returns : goal.returns
returns c = four-joined _ c.args.i c.four_little.ensures refl refl refl refl
