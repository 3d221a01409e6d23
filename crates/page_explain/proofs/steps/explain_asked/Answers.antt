use Rattle.explain.specs.Reasons.{why}
use Rattle.page_explain.proofs.Explained.{list-short, list-long}
use Rattle.page_explain.proofs.steps.explain_asked.Goals as goal

pub returns-then-places-t : goal.returns-then-places-t
unfolding why
returns-then-places-t c = list-short _ _ _ _ c.block_shape-shape.ensures c.if-places-t.true

pub explain_lent-requires : goal.explain_lent-requires
explain_lent-requires c = let p = c.requires in
    (p.0, p.1, rw c.block_shape-shape.ensures at c.if-places-t.false)

pub returns : goal.returns
returns c = list-long _ _ _ _ c.block_shape-shape.ensures c.if-places-t.false c.explain_lent.ensures
