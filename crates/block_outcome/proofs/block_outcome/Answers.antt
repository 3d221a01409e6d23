use Rattle.block_outcome.proofs.Counts.{block-locatable}
use Rattle.block_outcome.proofs.block_outcome.Goals as goal

pub find_errors-requires : goal.find_errors-requires
find_errors-requires c = let p = c.requires in
    rw (c.block_shape-shape.ensures, c.block_covered-n.ensures.eq) (record { decoding = p.planned.2; locatable = block-locatable _ p.planned.0.valid _ _ p.planned.1 p.words_bound })

pub returns : goal.returns
returns c = rw (c.block_shape-shape.ensures, c.block_covered-n.ensures.eq) at c.find_errors.ensures
