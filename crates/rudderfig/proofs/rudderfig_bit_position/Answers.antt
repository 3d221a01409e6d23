use mathlib.Core.Path.{◌∙◌, sym}
use native.Mathlib.Omega.{arith}
use Rattle.rudderfig.specs.Bits.{position_word}
use Rattle.rudderfig.proofs.Sizes.{position-low}
use Rattle.rudderfig.proofs.rudderfig_bit_position.Goals as goal

pub overflow_cast-position : goal.overflow_cast-position
overflow_cast-position c = let low =
    position-low _ (λ i. (c.shared_slice_known-1.given i).fits) _ _ _ (sym c.bit_position.ensures ∙ c.in-Ok.is) in
    omega arith

pub returns-in-Ok : goal.returns-in-Ok
unfolding position_word
returns-in-Ok c = c.done.ensures ∙ simp (sym c.bit_position.ensures, c.in-Ok.is)

pub returns-in-Err : goal.returns-in-Err
unfolding position_word
returns-in-Err c = c.refused.ensures
    ∙ simp (c.refusal_reply.ensures, sym c.bit_position.ensures, c.in-Err.is)
