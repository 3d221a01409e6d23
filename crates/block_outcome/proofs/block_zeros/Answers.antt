use mathlib.Core.Path.{refl, ◌∙◌}
use Rattle.page_plan.proofs.Plans.{block_inside}
use Rattle.page_theory.specs.Page.{block_word}
use Rattle.block_outcome.proofs.block_zeros.Goals as goal

pub run_zeros-requires : goal.run_zeros-requires
run_zeros-requires c = let p = c.requires in
    rw c.block_covered-n.ensures.eq (block_inside _ p.0.plan _ p.1 refl p.0.size c.block_start-start.ensures.eq)

pub returns : goal.returns
unfolding block_word
returns c = c.run_zeros.ensures ∙ rw (c.block_covered-n.ensures.eq, c.block_start-start.ensures.eq)
