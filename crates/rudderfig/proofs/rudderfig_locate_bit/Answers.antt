use mathlib.Core.Path.{◌∙◌, sym, ap}
use Rattle.std.specs.Prelude.{Ok}
use native.Mathlib.Omega.{arith}
use Rattle.rudderfig.specs.Bits.{bit_word}
use Rattle.rudderfig.proofs.Sizes.{bit-low}
use Rattle.rudderfig.proofs.rudderfig_locate_bit.Goals as goal

pub overflow_cast-block : goal.overflow_cast-block
overflow_cast-block c = omega (arith, bit-low _ (λ i. (c.shared_slice_known-1.given i).fits) _ _ _ (sym c.locate_bit.ensures ∙ c.in-Ok-InBlock.is ∙ ap Ok c.in-Ok-InBlock.field-0-is))

pub overflow_mul-block : goal.overflow_mul-block
overflow_mul-block c = omega (arith, bit-low _ (λ i. (c.shared_slice_known-1.given i).fits) _ _ _ (sym c.locate_bit.ensures ∙ c.in-Ok-InBlock.is ∙ ap Ok c.in-Ok-InBlock.field-0-is))

pub overflow_cast-exponent : goal.overflow_cast-exponent
overflow_cast-exponent c = omega (arith, bit-low _ (λ i. (c.shared_slice_known-1.given i).fits) _ _ _ (sym c.locate_bit.ensures ∙ c.in-Ok-InBlock.is ∙ ap Ok c.in-Ok-InBlock.field-0-is))

pub overflow_add-block : goal.overflow_add-block
overflow_add-block c = omega (arith, bit-low _ (λ i. (c.shared_slice_known-1.given i).fits) _ _ _ (sym c.locate_bit.ensures ∙ c.in-Ok-InBlock.is ∙ ap Ok c.in-Ok-InBlock.field-0-is))

pub returns-in-Ok-InBlock : goal.returns-in-Ok-InBlock
unfolding bit_word
returns-in-Ok-InBlock c = c.done.ensures ∙ simp (sym c.locate_bit.ensures, c.in-Ok-InBlock.is, c.in-Ok-InBlock.field-0-is)

pub returns-in-Ok-Tail : goal.returns-in-Ok-Tail
unfolding bit_word
returns-in-Ok-Tail c = c.done-in-Ok-Tail.ensures ∙ simp (sym c.locate_bit.ensures, c.in-Ok-Tail.is, c.in-Ok-Tail.field-0-is)

pub returns-in-Ok-Mark : goal.returns-in-Ok-Mark
unfolding bit_word
returns-in-Ok-Mark c = c.done-in-Ok-Mark.ensures ∙ simp (sym c.locate_bit.ensures, c.in-Ok-Mark.is, c.in-Ok-Mark.field-0-is)

pub returns-in-Err : goal.returns-in-Err
unfolding bit_word
returns-in-Err c = c.refused.ensures
    ∙ simp (c.refusal_reply.ensures, sym c.locate_bit.ensures, c.in-Err.is)
