use mathlib.Core.Path.{ap, ◌∙◌}
use Rattle.explain_words.specs.Words.{layout_word}
use Rattle.rudderfig.proofs.explaining.rudderfig_explain_layout.Goals as goal

pub returns : goal.returns
returns c = c.layout_word.ensures ∙ ap layout_word c.explain_layout-answer.ensures
