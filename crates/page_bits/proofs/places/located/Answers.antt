use native.Mathlib.Omega.{arith}
use borrow.Author.Rules.{rules}
use Rattle.layout.specs.Bits.{exponent_at}
use Rattle.page_bits.proofs.Placing.{block-holds, located-tail, located-block}
use Rattle.page_bits.proofs.places.located.Goals as goal

pub returns-then-blocks-found : goal.returns-then-blocks-found
returns-then-blocks-found c = located-tail _ _ c.block_of-found.ensures (search rules)

pub overflow_sub-offset : goal.overflow_sub-offset
overflow_sub-offset c = let lies = block-holds c.args.plan c.args.position c.block_of-found.ensures (omega arith) in
    omega (arith, c.block_start.ensures.eq)

pub overflow_sub-result : goal.overflow_sub-result
overflow_sub-result c = let lies = block-holds c.args.plan c.args.position c.block_of-found.ensures (omega arith) in
    omega (arith, c.block_covered.ensures.eq)

pub overflow_sub-result-2 : goal.overflow_sub-result-2
overflow_sub-result-2 c = let lies = block-holds c.args.plan c.args.position c.block_of-found.ensures (omega arith) in
    omega (arith, c.block_covered.ensures.eq, c.block_start.ensures.eq)

pub returns : goal.returns
unfolding exponent_at
returns c = rw (c.block_covered.ensures.eq, c.block_start.ensures.eq)
    (located-block _ _ c.block_of-found.ensures (omega arith))
