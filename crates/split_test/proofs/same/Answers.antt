use native.Mathlib.Omega.{arith}
use borrow.Author.Count.{below_more}
use Rattle.bits.proofs.Decides.{decides-true, decides-false}
use Rattle.split_test.proofs.same.Goals as goal

pub returns-then-p-q : goal.returns-then-p-q
returns-then-p-q c = decides-false (λ h. c.if-p-q.true (h c.loop-i.i (omega arith)))

pub loop-i-preserved : goal.loop-i-preserved
loop-i-preserved c = below_more _ _ c.loop-i.invariant c.if-p-q.false

pub returns : goal.returns
returns c = decides-true (λ i l. c.loop-i.invariant i (omega arith))
