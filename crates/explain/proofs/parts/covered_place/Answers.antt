use Rattle.explain.proofs.Places.{parity-place, message-place}
use Rattle.explain.proofs.parts.covered_place.Goals as goal

pub returns-then-message-at : goal.returns-then-message-at
returns-then-message-at c = parity-place _ _ _ _ c.block_shape-shape.ensures c.block_covered-n.ensures.eq c.if-message-at.true c.place_at.ensures

pub returns : goal.returns
returns c = message-place _ _ _ _ c.block_shape-shape.ensures c.block_covered-n.ensures.eq c.if-message-at.false
    c.message_start-from.ensures.eq c.message_place.ensures
