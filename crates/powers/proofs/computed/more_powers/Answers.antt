use native.Mathlib.Omega.{arith}
use Rattle.powers.proofs.Fill.{begun-next, begun-less}
use Rattle.powers.proofs.Strides.{stride-entry}
use Rattle.powers.proofs.computed.more_powers.Goals as goal

pub loop-k-init : goal.loop-k-init
loop-k-init c = c.requires.0

pub loop-k-preserved : goal.loop-k-preserved
loop-k-preserved c = let i = c.loop-k.invariant in
    begun-next _ i (omega arith) (stride-entry c.requires.1 i (omega arith))

pub returns : goal.returns
returns c = begun-less c.loop-k.invariant (omega arith)
