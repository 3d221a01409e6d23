use mathlib.Core.Path.{◌≡◌}
use native.Mathlib.Omega.{arith}
use Rattle.page_keep.proofs.Keeping.{kept_for-none, kept_for-next}
use Rattle.page_keep.proofs.keep.keep.Goals as goal

pub loop-i-init : goal.loop-i-init
loop-i-init c = kept_for-none _ _ _

pub loop-i-preserved : goal.loop-i-preserved
loop-i-preserved c = kept_for-next _ _ _ _ _ c.loop-i.invariant (omega arith) (omega arith)

pub returns : goal.returns
returns c = let l = c.loop-i in
    let e : l.i ≡ c.args.n = omega arith in
    rw e at l.invariant
