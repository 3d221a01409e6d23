use native.Mathlib.Omega.{arith}
use Rattle.page_keep.proofs.Keeping.{block_kept-none, block_kept-some}
use Rattle.page_keep.proofs.keep.keep_block.Goals as goal

pub returns-then-count-ge128 : goal.returns-then-count-ge128
returns-then-count-ge128 c = let p = c.requires in block_kept-none _ _ _ _ _ (omega (arith, p.block_bound.0, p.block_in_bounds.1)) c.if-count-ge128.true

pub keep-requires : goal.keep-requires
keep-requires c = let p = c.requires in
    (omega (arith, c.wide.ensures, p.block_bound.2 c.if-count-ge128.false), p.block_bound.1, p.block_in_bounds.0)

pub returns : goal.returns
returns c = let p = c.requires in
    block_kept-some _ _ _ _ _ (omega (arith, p.block_bound.0, p.block_in_bounds.1)) c.wide.ensures
    (omega (arith, p.block_bound.1, p.block_bound.2 c.if-count-ge128.false)) c.keep.ensures
