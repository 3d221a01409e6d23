use mathlib.Core.Path.{refl}
use Rattle.page_decide.proofs.Remainders.{remainder_at-below}
use Rattle.page_decide.proofs.Deciding.{found-few, block-decided}
use Rattle.page_decide.proofs.decide.decide_block.Goals as goal

pub outcome_after-found-requires : goal.outcome_after-found-requires
outcome_after-found-requires c = let p = c.requires in
    let plan = p.ready.0.plan in
    let s = p.ready.1 in
    record { planned = (plan, s.inside, p.decoding); words_bound = (rw s.is (remainder_at-below _ _ plan.valid _ s.inside), p.ready.2) }

pub block_count-count-requires : goal.block_count-count-requires
block_count-count-requires c = let p = c.requires in
    let s = p.ready.1 in
    (p.ready.0, s.inside, found-few _ _ p.ready.0.plan.valid _ s.inside s.is c.outcome_after-found.ensures)

pub returns : goal.returns
returns c = let p = c.requires in
    let s = p.ready.1 in
    block-decided _ _ _ p.ready.0.plan.valid s.inside s.is c.outcome_after-found.ensures c.block_count-count.ensures refl
