use native.Mathlib.Omega.{arith}
use Rattle.page_explain.proofs.Positions.{position-told, position-page}
use Rattle.page_explain.proofs.flips.flip_position.Goals as goal

pub overflow_sub-at : goal.overflow_sub-at
overflow_sub-at c = omega (arith, c.block_covered-n.ensures.eq, c.requires.2)

pub overflow_sub-at-2 : goal.overflow_sub-at-2
overflow_sub-at-2 c = omega (arith, c.block_covered-n.ensures.eq, c.requires.2)

pub overflow_add-at : goal.overflow_add-at
overflow_add-at c = omega (arith, c.block_covered-n.ensures.small, c.block_start-start.ensures.small)

pub place-requires : goal.place-requires
place-requires c = omega (arith, c.block_covered-n.ensures.small, c.block_start-start.ensures.small)

pub overflow_cast-result : goal.overflow_cast-result
overflow_cast-result c = let p = c.requires in
    omega (
      arith,
      position-told _ _ _ p.1 p.2 c.block_start-start.ensures.eq c.block_covered-n.ensures.eq c.place.ensures,
      position-page _ _ _ p.1 p.2 p.0.valid,
    )

pub returns : goal.returns
returns c = let p = c.requires in
    position-told _ _ _ p.1 p.2 c.block_start-start.ensures.eq c.block_covered-n.ensures.eq c.place.ensures
