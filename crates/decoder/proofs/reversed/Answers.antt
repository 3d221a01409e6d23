use mathlib.Core.Path.{◌≡◌}
use native.Mathlib.Omega.{arith}
use Rattle.decoder.proofs.Locating.{reversing-start, reversing-next, reversing-end}
use Rattle.decoder.proofs.reversed.Goals as goal

pub loop-i-init : goal.loop-i-init
loop-i-init c = reversing-start

pub loop-i-preserved : goal.loop-i-preserved
loop-i-preserved c = reversing-next _ (omega arith) c.loop-i.invariant

pub returns : goal.returns
returns c = let e : c.loop-i.i ≡ c.args.count = omega arith in reversing-end (rw e at c.loop-i.invariant)
