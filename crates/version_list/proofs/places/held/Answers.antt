use borrow.Author.Tests.{lt-ltb, le-ltb}
use Rattle.version_list.specs.Places.{held}
use borrow.Author.Rules.{rules}
use Rattle.version_list.proofs.places.held.Goals as goal

pub returns-then-count-lt32 : goal.returns-then-count-lt32
unfolding held
returns-then-count-lt32 c = (rw (lt-ltb _ _ c.if-count-lt32.true), search rules)

pub returns : goal.returns
unfolding held
returns c = (rw (le-ltb _ _ c.if-count-lt32.false), search rules)
