use mathlib.Core.Path.{ap}
use borrow.Author.Rules.{rules}
use Rattle.layout_plan.specs.declared.Shape.{Shape}
use Rattle.page_copy.proofs.Flipping.{flipped-message, flipped-parity}
use Rattle.page_copy.proofs.copy.flip_place.Goals as goal

pub returns-then-j-bits : goal.returns-then-j-bits
returns-then-j-bits c = flipped-message _ _ _ c.requires.planned.2 _ _ c.requires.planned.0.valid c.requires.planned.1 c.requires.metadata_len.0 c.requires.metadata_len.1 c.block_covered-n.ensures.eq
    (ap (λ (x : Shape). x.message) c.block_shape-shape.ensures) c.message_start-start.ensures.eq (search rules) c.flip.ensures

pub returns-else-j-bits : goal.returns-else-j-bits
returns-else-j-bits c = flipped-parity _ _ _ c.requires.planned.2 _ _ c.block_covered-n.ensures.eq (ap (λ (x : Shape). x.message) c.block_shape-shape.ensures) (search rules)
