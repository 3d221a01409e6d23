use mathlib.Core.Bool.{and-false}
use mathlib.Core.Path.{sym, ◌∙◌}
use native.Mathlib.Omega.{arith}
use borrow.Author.Tests.{eq-eqb, ne_eqb, lt-ltb, le-ltb}
use Rattle.plan_test.specs.Together.{summed}
use Rattle.layout_plan.specs.Plan.{payload}
use Rattle.plan_test.proofs.summed.Goals as goal

pub returns-then-blocks-eq0 : goal.returns-then-blocks-eq0
unfolding summed
returns-then-blocks-eq0 c = simp (le-ltb 0 c.args.plan.blocks (omega (arith, c.if-blocks-eq0.true)))

pub returns-then-used-covered : goal.returns-then-used-covered
unfolding summed
returns-then-used-covered c = simp (ne_eqb _ _ (λ z. c.if-used-covered.true (z ∙ sym c.sum-covered.ensures)), and-false)

pub returns : goal.returns
unfolding summed payload
returns c = let some = lt-ltb 0 c.args.plan.blocks (omega (arith, c.if-blocks-eq0.false)) in
    simp (some, eq-eqb _ _ (c.if-used-covered.false ∙ c.sum-covered.ensures), c.sum-messages.ensures)
