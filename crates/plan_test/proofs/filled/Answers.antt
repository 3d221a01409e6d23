use native.Mathlib.Omega.{arith}
use borrow.Author.Tests.{le-leb, lt-leb, lt-ltb, le-ltb}
use Rattle.plan_test.specs.Together.{filled}
use Rattle.plan_test.proofs.filled.Goals as goal

pub returns-then-first-eq0 : goal.returns-then-first-eq0
unfolding filled
returns-then-first-eq0 c = simp (le-ltb 0 c.args.plan.first.message (omega (arith, c.if-first-eq0.true)))

pub returns-then-plan-le1 : goal.returns-then-plan-le1
unfolding filled
returns-then-plan-le1 c = simp (lt-ltb 0 c.args.plan.first.message (omega (arith, c.if-first-eq0.false)), le-leb _ _ c.if-plan-le1.true)

pub returns : goal.returns
unfolding filled
returns c = simp (lt-ltb 0 c.args.plan.first.message (omega (arith, c.if-first-eq0.false)), lt-leb _ _ c.if-plan-le1.false)
