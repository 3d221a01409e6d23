use mathlib.Core.Path.{ap}
use Rattle.layout_plan.specs.declared.Shape.{Shape}
use Rattle.page_copy.proofs.Messages.{joined-message, message-room}
use Rattle.page_copy.proofs.copy.copy_message.Goals as goal

pub copy_out-requires : goal.copy_out-requires
copy_out-requires c = let both = message-room _ _ c.requires.0 _ c.requires.1 c.requires.2 c.requires.3
    c.block_start-start.ensures.eq c.message_start-position.ensures.eq (ap (λ (x : Shape). x.message) c.block_shape-shape.ensures) in record { in_stream = both.0; n_bound = both.1 }

pub returns : goal.returns
returns c = joined-message _ _ _ c.block_start-start.ensures.eq c.message_start-position.ensures.eq
    (ap (λ (x : Shape). x.message) c.block_shape-shape.ensures) c.copy_out.ensures
