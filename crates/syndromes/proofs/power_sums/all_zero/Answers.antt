use native.Mathlib.Omega.{arith}
use borrow.Author.Count.{below_more}
use Rattle.bits.proofs.Decides.{decides-true, decides-false}
use Rattle.syndromes.proofs.power_sums.all_zero.Goals as goal

pub returns-then-sums-i-ne0 : goal.returns-then-sums-i-ne0
returns-then-sums-i-ne0 c = decides-false (λ h. c.if-sums-i-ne0.true (h c.loop-i.i (omega arith)))

pub loop-i-preserved : goal.loop-i-preserved
loop-i-preserved c = below_more _ _ c.loop-i.invariant (omega arith)

pub returns : goal.returns
returns c = decides-true (λ i l. c.loop-i.invariant i (omega arith))
