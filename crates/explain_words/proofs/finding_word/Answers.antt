use mathlib.Core.Path.{sym, ap, ◌∙◌}
use Rattle.explain_words.specs.Words.{finding_word}
use Rattle.explain_words.proofs.finding_word.Goals as goal

pub returns-in-Flips : goal.returns-in-Flips
unfolding finding_word
returns-in-Flips c = c.explanation_word.ensures ∙ sym (ap finding_word c.in-Flips.is)

pub returns-in-Erased : goal.returns-in-Erased
unfolding finding_word
returns-in-Erased c = c.explanation_word-in-Erased.ensures ∙ sym (ap finding_word c.in-Erased.is)

pub returns-in-Ruined : goal.returns-in-Ruined
unfolding finding_word
returns-in-Ruined c = c.explanation_word-in-Ruined.ensures ∙ sym (ap finding_word c.in-Ruined.is)
