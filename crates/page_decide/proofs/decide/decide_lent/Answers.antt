use Rattle.page_decide.proofs.Deciding.{remembers-nothing}
use Rattle.page_decide.proofs.decide.decide_lent.Goals as goal

pub fill_decoding-requires : goal.fill_decoding-requires
fill_decoding-requires c = let p = c.requires in
    (rw c.block_shape-shape.ensures (p.ready.0.plan.valid.strong _ p.ready.1.inside), p.powers_len.0, p.powers_len.1, p.powers_len.2)

pub decide_block-requires : goal.decide_block-requires
decide_block-requires c = let p = c.requires in
    record { ready = (p.ready.0, p.ready.1, remembers-nothing _ _ c.nothing.ensures); decoding = rw c.block_shape-shape.ensures at c.fill_decoding.ensures.decoding }
