use borrow.Author.Tests.{le-leb, lt-leb}
use Rattle.plan_test.specs.Together.{placed}
use Rattle.plan_test.proofs.placed.Goals as goal

pub returns-then-size-end : goal.returns-then-size-end
unfolding placed
returns-then-size-end c = simp (lt-leb _ _ c.if-size-end.true)

pub returns : goal.returns
unfolding placed
returns c = simp (le-leb _ _ c.if-size-end.false, c.page_room-room.ensures)
