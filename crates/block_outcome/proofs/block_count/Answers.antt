use Rattle.block_outcome.proofs.Counts.{count_at-located, count_at-nowhere}
use Rattle.block_outcome.proofs.block_count.Goals as goal

pub returns-then-not-located : goal.returns-then-not-located
returns-then-not-located c = count_at-nowhere _ _ _ _ c.if-not-located.true c.erased_count.ensures

pub returns : goal.returns
returns c = count_at-located _ _ _ _ c.if-not-located.false c.flip_count.ensures
