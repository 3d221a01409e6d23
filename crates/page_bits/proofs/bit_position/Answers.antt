use mathlib.Core.Path.{◌∙◌}
use Rattle.layout.specs.Bits.{position_answer}
use Rattle.page_bits.proofs.bit_position.Goals as goal

pub returns : goal.returns
unfolding position_answer
returns c = c.position_for.ensures ∙ rw c.check_layout.ensures
