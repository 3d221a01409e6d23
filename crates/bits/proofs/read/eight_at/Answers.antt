use mathlib.Core.Path.{refl}
use Rattle.bits.proofs.Steps.{halves-joined}
use Rattle.bits.proofs.read.eight_at.Goals as goal

pub returns : goal.returns
returns c = halves-joined _ _ refl c.four_at-upper.ensures c.four_at-lower.ensures
