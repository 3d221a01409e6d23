use Rattle.page_theory.specs.Page.{block_word}
use Rattle.roundtrip.specs.Mask.{named}
use Rattle.roundtrip.proofs.mask.block_allowed.Goals as goal

pub returns : goal.returns
unfolding named block_word
returns c = rw (
  c.ones_at-count.ensures,
  c.block_shape-shape.ensures,
  c.block_covered-n.ensures.eq,
  c.block_start-position.ensures.eq,
)
