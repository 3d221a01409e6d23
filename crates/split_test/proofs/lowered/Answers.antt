use mathlib.Core.Path.{◌≡◌}
use native.Mathlib.Omega.{arith}
use Rattle.split_test.proofs.Splitting.{lowered-start, lowered-next}
use Rattle.split_test.proofs.lowered.Goals as goal

pub loop-i-init : goal.loop-i-init
loop-i-init c = lowered-start

pub loop-i-preserved : goal.loop-i-preserved
loop-i-preserved c = lowered-next (omega arith) c.loop-i.invariant

pub returns : goal.returns
returns c = let e : c.loop-i.i ≡ c.args.n = omega arith in rw e at c.loop-i.invariant
