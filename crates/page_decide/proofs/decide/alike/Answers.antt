use Rattle.page_decide.proofs.Deciding.{alike-nothing, alike-shape, alike-words}
use Rattle.page_decide.proofs.decide.alike.Goals as goal

pub returns-then-not-known : goal.returns-then-not-known
returns-then-not-known c = alike-nothing c.if-not-known.true

pub returns-then-first-last : goal.returns-then-first-last
returns-then-first-last c = alike-shape c.if-first-last.true

pub returns : goal.returns
returns c = alike-words c.if-not-known.false c.if-first-last.false c.same_words.ensures
