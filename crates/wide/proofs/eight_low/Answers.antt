use mathlib.Core.Path.{refl}
use Rattle.wide.proofs.Steps.{halves-joined}
use Rattle.wide.proofs.eight_low.Goals as goal

pub returns : goal.returns
returns c = let a = c.args in
    halves-joined a.bytes.now a.i refl c.four_low-lower.ensures c.four_low-upper.ensures
