use mathlib.Core.Path.{◌≡◌}
use native.Mathlib.Omega.{arith}
use Rattle.syndromes.proofs.Spreading.{spreading-start, spreading-next, spreading-end}
use Rattle.syndromes.proofs.power_sums.spread.Goals as goal

pub loop-i-init : goal.loop-i-init
loop-i-init c = spreading-start

pub loop-i-preserved : goal.loop-i-preserved
loop-i-preserved c = spreading-next _ c.requires (omega arith) c.loop-i.invariant

pub returns : goal.returns
returns c = let e : c.loop-i.i ≡ c.args.t = omega arith in spreading-end _ (rw e at c.loop-i.invariant)
