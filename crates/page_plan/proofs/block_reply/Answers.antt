use borrow.Author.Tests.{eq-eqb, ne_eqb, lt-ltb, le-ltb}
use Rattle.replies.specs.Replies.{number, verdict_number}
use Rattle.page_theory.specs.Calls.{block_reply}
use Rattle.page_plan.proofs.block_reply.Goals as goal

pub returns-then-page-plan : goal.returns-then-page-plan
unfolding block_reply verdict_number number
returns-then-page-plan c = simp (ne_eqb _ _ c.if-page-plan.true)

pub returns-then-plan-block : goal.returns-then-plan-block
unfolding block_reply verdict_number number
returns-then-plan-block c = simp (eq-eqb _ _ c.if-page-plan.false, le-ltb _ _ c.if-plan-block.true)

pub returns : goal.returns
unfolding block_reply verdict_number number
returns c = simp (eq-eqb _ _ c.if-page-plan.false, lt-ltb _ _ c.if-plan-block.false)
