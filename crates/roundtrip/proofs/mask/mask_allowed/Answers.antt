use borrow.Author.Tests.{ne_eqb, eq-eqb}
use Rattle.roundtrip.specs.Mask.{allowed}
use Rattle.roundtrip.proofs.mask.mask_allowed.Goals as goal

pub returns-then-mask-plan : goal.returns-then-mask-plan
unfolding allowed
returns-then-mask-plan c = rw (ne_eqb _ _ c.if-mask-plan.true)

pub returns : goal.returns
unfolding allowed
returns c = rw (eq-eqb _ _ c.if-mask-plan.false, c.blocks_allowed.ensures)
