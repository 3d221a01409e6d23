use borrow.Author.Rules.{rules}
use Rattle.page_plan.specs.Plans.{Stored}
use Rattle.page_plan.proofs.Plans.{shape-stored}
use Rattle.page_judge.proofs.judge.own_remainder.Goals as goal

pub make_table-requires : goal.make_table-requires
make_table-requires c = let h : Stored c.block_shape-shape.result = rw c.block_shape-shape.ensures (shape-stored _ _ c.requires.0.plan) in
    (h.even, h.small, search rules)

pub block_remainder-requires : goal.block_remainder-requires
block_remainder-requires c = let p = c.requires in
    record { ready = p.0; block_lt_blocks = (p.1, rw c.block_shape-shape.ensures at c.make_table.ensures) }
