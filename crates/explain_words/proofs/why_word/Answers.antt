use Rattle.explain_words.proofs.Shown.{why-told}
use Rattle.explain_words.proofs.why_word.Goals as goal

pub returns : goal.returns
returns c = why-told _ c.refusal_number.ensures c.about_number.ensures c.explanation_word.ensures
