use borrow.Author.Tests.{eq-eqb, ne_eqb}
use Rattle.layout_plan.specs.Record.{record_length}
use Rattle.layout_record.proofs.words.record_length.Goals as goal

pub returns-then-n-eq8 : goal.returns-then-n-eq8
unfolding record_length
returns-then-n-eq8 c = simp (eq-eqb _ _ c.if-n-eq8.true)

pub returns : goal.returns
unfolding record_length
returns c = simp (ne_eqb _ _ c.if-n-eq8.false)
