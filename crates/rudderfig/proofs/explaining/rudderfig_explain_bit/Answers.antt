use mathlib.Core.Path.{ap, ◌∙◌}
use Rattle.explain_words.specs.Words.{place_word}
use Rattle.rudderfig.proofs.explaining.rudderfig_explain_bit.Goals as goal

pub returns : goal.returns
returns c = c.place_word.ensures ∙ ap place_word c.explain_bit-answer.ensures
