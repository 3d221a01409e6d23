use native.Mathlib.Omega.{arith}
use Rattle.page_bits.proofs.Placing.{near-beyond, near-lies, near-pads}
use Rattle.page_bits.proofs.places.block_of.Goals as goal

pub returns-then-blocks-near : goal.returns-then-blocks-near
returns-then-blocks-near c = near-beyond _ c.block_near-near.ensures.eq c.if-blocks-near.true

pub returns-then-at-end : goal.returns-then-at-end
returns-then-at-end c = near-lies _ c.block_near-near.ensures.eq (omega arith)
    (rw (c.block_start.ensures.eq, c.block_covered.ensures.eq) at c.if-at-end.true)

pub returns : goal.returns
returns c = near-pads _ c.block_near-near.ensures.eq (omega arith) (omega (arith, c.block_start.ensures.eq, c.block_covered.ensures.eq))
