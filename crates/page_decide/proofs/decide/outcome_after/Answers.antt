use Rattle.page_decide.proofs.Deciding.{alike-finds}
use Rattle.page_decide.proofs.decide.outcome_after.Goals as goal

pub returns-then-alike : goal.returns-then-alike
returns-then-alike c = alike-finds _ c.requires.words_bound.1 (c.alike.ensures.holds c.if-alike.true)
