use borrow.Author.Rules.{rules}
use Rattle.layout_plan.proofs.Plans.{shape-first, shape-later}
use Rattle.layout_plan.proofs.sums.block_shape.Goals as goal

pub returns-then-block-plan : goal.returns-then-block-plan
returns-then-block-plan c = shape-first _ _ (search rules)

pub returns : goal.returns
returns c = shape-later _ _ (search rules)
