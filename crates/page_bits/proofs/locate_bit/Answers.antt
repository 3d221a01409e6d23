use mathlib.Core.Path.{◌∙◌}
use Rattle.layout.specs.Bits.{bit_answer}
use Rattle.page_bits.proofs.locate_bit.Goals as goal

pub returns : goal.returns
unfolding bit_answer
returns c = c.bit_for.ensures ∙ rw c.check_layout.ensures
