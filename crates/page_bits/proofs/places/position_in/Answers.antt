use borrow.Author.Tests.{lt-ltb, le-ltb}
use Rattle.layout.specs.Bits.{position_in, position_at}
use Rattle.page_bits.proofs.places.position_in.Goals as goal

pub returns-then-plan-block : goal.returns-then-plan-block
unfolding position_in
returns-then-plan-block c = simp (le-ltb _ _ c.if-plan-block.true)

pub returns-then-length-exponent : goal.returns-then-length-exponent
unfolding position_in
returns-then-length-exponent c = let long = rw c.block_covered-length.ensures.eq at c.if-length-exponent.true in
    simp (lt-ltb _ _ c.if-plan-block.false, le-ltb _ _ long)

pub returns : goal.returns
unfolding position_in position_at
returns c = let length = c.block_covered-length.ensures.eq in
    let low = rw length at c.if-length-exponent.false in
    simp (lt-ltb _ _ c.if-plan-block.false, lt-ltb _ _ low, c.place.ensures, c.block_start-start.ensures.eq, length)
