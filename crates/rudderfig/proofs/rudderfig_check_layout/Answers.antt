use mathlib.Core.Path.{◌∙◌, sym}
use Rattle.rudderfig.specs.Bits.{acceptance_word}
use Rattle.rudderfig.proofs.rudderfig_check_layout.Goals as goal

pub returns-in-Ok : goal.returns-in-Ok
unfolding acceptance_word
returns-in-Ok c = c.done.ensures ∙ simp (sym c.check_layout.ensures, c.in-Ok.is)

pub returns-in-Err : goal.returns-in-Err
unfolding acceptance_word
returns-in-Err c = c.refused.ensures
    ∙ simp (c.refusal_reply.ensures, sym c.check_layout.ensures, c.in-Err.is)
