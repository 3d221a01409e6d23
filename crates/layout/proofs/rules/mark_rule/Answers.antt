use mathlib.Core.Path.{◌∙◌}
use borrow.Author.Tests.{lt-ltb, le-ltb}
use Rattle.layout.specs.Acceptance.{mark_rule, either, test}
use Rattle.layout.proofs.rules.mark_rule.Goals as goal

pub returns-then-page-end : goal.returns-then-page-end
unfolding mark_rule either test
returns-then-page-end c = simp (lt-ltb _ _ c.if-page-end.true)

pub returns : goal.returns
unfolding mark_rule either test
returns c = c.test.ensures ∙ simp (le-ltb _ _ c.if-page-end.false)
