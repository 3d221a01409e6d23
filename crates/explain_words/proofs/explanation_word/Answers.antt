use Rattle.explain_words.specs.Words.{explanation_word}
use Rattle.explain_words.proofs.explanation_word.Goals as goal

pub returns : goal.returns
unfolding explanation_word
returns c = rw (c.shown_to-first.ensures.eq, c.shown_to-second.ensures.eq)
