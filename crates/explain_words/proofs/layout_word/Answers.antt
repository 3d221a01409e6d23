use mathlib.Core.Path.{sym, ap, ◌∙◌}
use Rattle.explain_words.specs.Words.{layout_word}
use Rattle.explain_words.proofs.layout_word.Goals as goal

pub returns-in-Ok : goal.returns-in-Ok
unfolding layout_word
returns-in-Ok c = sym (ap layout_word c.in-Ok.is)

pub returns-in-Err : goal.returns-in-Err
unfolding layout_word
returns-in-Err c = c.why_word.ensures ∙ sym (ap layout_word c.in-Err.is)
