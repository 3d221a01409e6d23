use mathlib.Core.Path.{◌≡◌}
use native.Mathlib.Omega.{arith}
use Rattle.bits.proofs.Decides.{decides-true, decides-false}
use Rattle.decoder.proofs.Locating.{ordered-start, ordered-next, ordered-high}
use Rattle.decoder.proofs.descend_below.Goals as goal

pub loop-k-init : goal.loop-k-init
loop-k-init c = ordered-start _ _

pub returns-then-not-is_below : goal.returns-then-not-is_below
returns-then-not-is_below c = decides-false (ordered-high _ c.loop-k.invariant (omega arith) (omega (arith, c.place-p.ensures, c.is_below.ensures.1 c.if-not-is_below.true)))

pub loop-k-preserved : goal.loop-k-preserved
loop-k-preserved c = let e = c.place-p.ensures in
    rw e (ordered-next _ c.loop-k.invariant (omega (arith, c.is_below.ensures.0 c.if-not-is_below.false)))

pub returns : goal.returns
returns c = let e : c.loop-k.k ≡ c.args.count = omega arith in
    decides-true (rw e at c.loop-k.invariant.order)
