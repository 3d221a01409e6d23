use borrow.Author.Tests.{eq-eqb, ne_eqb}
use Rattle.layout_plan.specs.Record.{field_of}
use Rattle.layout_plan.proofs.choice.field_of.Goals as goal

pub returns-then-bit-eq0 : goal.returns-then-bit-eq0
unfolding field_of
returns-then-bit-eq0 c = simp (eq-eqb _ _ c.if-bit-eq0.true)

pub returns : goal.returns
unfolding field_of
returns c = simp (ne_eqb _ _ c.if-bit-eq0.false)
