use mathlib.Core.Path.{ap, ◌∙◌}
use lib.Pow.{ones_lt}
use Rattle.bits.specs.Bits.{placed}
use Rattle.bits.proofs.Numbers.{digits-ones}
use borrow.Author.Rules.{rules}
use Rattle.bit_writing.proofs.fill.fill_part.Goals as goal

pub put_number-requires : goal.put_number-requires
put_number-requires c = (search rules, rw c.low_ones-v.ensures (ones_lt _))

pub returns : goal.returns
returns c = c.put_number.ensures ∙ ap (placed _ _) (digits-ones _ c.low_ones-v.ensures)
