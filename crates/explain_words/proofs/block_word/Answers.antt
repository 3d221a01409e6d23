use mathlib.Core.Path.{sym, ap, ◌∙◌}
use Rattle.explain_words.specs.Words.{block_word}
use Rattle.explain_words.proofs.block_word.Goals as goal

pub returns-in-Ok : goal.returns-in-Ok
unfolding block_word
returns-in-Ok c = c.finding_word.ensures ∙ sym (ap block_word c.in-Ok.is)

pub returns-in-Err : goal.returns-in-Err
unfolding block_word
returns-in-Err c = c.why_word.ensures ∙ sym (ap block_word c.in-Err.is)
