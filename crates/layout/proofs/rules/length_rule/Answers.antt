use mathlib.Core.Path.{◌∙◌}
use borrow.Author.Tests.{eq-eqb, ne_eqb}
use Rattle.layout.specs.Acceptance.{length_rule, test}
use Rattle.layout.proofs.rules.length_rule.Goals as goal

pub returns-then-shape-eq0 : goal.returns-then-shape-eq0
unfolding length_rule test
returns-then-shape-eq0 c = simp (eq-eqb _ _ c.if-shape-eq0.true)

pub returns : goal.returns
unfolding length_rule
returns c = c.test.ensures ∙ simp (c.longest-limit.ensures, ne_eqb _ _ c.if-shape-eq0.false)
