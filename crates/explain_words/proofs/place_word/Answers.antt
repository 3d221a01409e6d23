use mathlib.Core.Path.{sym, ap, ◌∙◌}
use Rattle.explain_words.specs.Words.{place_word}
use Rattle.explain_words.proofs.place_word.Goals as goal

pub returns-in-Ok : goal.returns-in-Ok
unfolding place_word
returns-in-Ok c = c.spot_word.ensures ∙ sym (ap place_word c.in-Ok.is)

pub returns-in-Err : goal.returns-in-Err
unfolding place_word
returns-in-Err c = c.why_word.ensures ∙ sym (ap place_word c.in-Err.is)
