use Rattle.explain.specs.Reasons.{why}
use Rattle.page_explain.proofs.Explained.{page-unequal, block-outside, block_within}
use Rattle.page_explain.proofs.steps.explain_in.Goals as goal

pub returns-then-lent-size : goal.returns-then-lent-size
unfolding why
returns-then-lent-size c = page-unequal _ _ _ _ c.if-lent-size.true

pub returns-then-blocks-block : goal.returns-then-blocks-block
unfolding why
returns-then-blocks-block c = block-outside _ _ _ _ c.if-lent-size.false c.if-blocks-block.true

pub returns : goal.returns
returns c = block_within _ _ _ _ c.if-lent-size.false c.if-blocks-block.false c.explain_asked.ensures
