use Rattle.layout.specs.Acceptance.{test}
use Rattle.layout.proofs.rules.test.Goals as goal

pub returns-then-broken : goal.returns-then-broken
unfolding test
returns-then-broken c = simp c.if-broken.true

pub returns : goal.returns
unfolding test
returns c = simp c.if-broken.false
