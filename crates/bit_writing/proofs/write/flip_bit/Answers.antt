use mathlib.Core.Path.{ap, ◌∙◌}
use native.Mathlib.Omega.{arith}
use Rattle.bits.specs.Bits.{placed}
use Rattle.bits.proofs.Pages.{bit_at_lt}
use Rattle.bit_writing.proofs.Parts.{digits-not}
use Rattle.bit_writing.proofs.write.flip_bit.Goals as goal

pub overflow_sub-b : goal.overflow_sub-b
overflow_sub-b c = omega (arith, c.bit_at-b.ensures, bit_at_lt c.args.page.now c.args.p)

pub returns : goal.returns
returns c = c.put_number.ensures ∙ ap (placed _ _) (digits-not _ _ c.bit_at-b.ensures)
