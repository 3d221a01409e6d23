use borrow.Author.Tests.{eq-eqb, ne_eqb}
use Rattle.replies.specs.Replies.{number, verdict_number}
use Rattle.page_theory.specs.Calls.{take_reply}
use Rattle.page_take.proofs.take.take_reply.Goals as goal

pub returns-then-page-plan : goal.returns-then-page-plan
unfolding take_reply verdict_number number
returns-then-page-plan c = simp (ne_eqb _ _ c.if-page-plan.true)

pub returns-then-metadata-plan : goal.returns-then-metadata-plan
unfolding take_reply verdict_number number
returns-then-metadata-plan c = simp (eq-eqb _ _ c.if-page-plan.false, ne_eqb _ _ c.if-metadata-plan.true)

pub returns-then-data-plan : goal.returns-then-data-plan
unfolding take_reply verdict_number number
returns-then-data-plan c = simp (eq-eqb _ _ c.if-page-plan.false, eq-eqb _ _ c.if-metadata-plan.false, ne_eqb _ _ c.if-data-plan.true)

pub returns : goal.returns
unfolding take_reply verdict_number number
returns c = simp (eq-eqb _ _ c.if-page-plan.false, eq-eqb _ _ c.if-metadata-plan.false, eq-eqb _ _ c.if-data-plan.false)
