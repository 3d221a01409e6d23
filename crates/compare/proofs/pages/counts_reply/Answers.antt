use borrow.Author.Tests.{eq-eqb, ne_eqb}
use Rattle.replies.specs.Replies.{number, verdict_number}
use Rattle.compare.specs.Calls.{counts_reply}
use Rattle.compare.proofs.pages.counts_reply.Goals as goal

pub returns-then-first-blocks : goal.returns-then-first-blocks
unfolding counts_reply verdict_number number
returns-then-first-blocks c = simp (ne_eqb _ _ c.if-first-blocks.true)

pub returns-then-second-blocks : goal.returns-then-second-blocks
unfolding counts_reply verdict_number number
returns-then-second-blocks c = simp (eq-eqb _ _ c.if-first-blocks.false, ne_eqb _ _ c.if-second-blocks.true)

pub returns : goal.returns
unfolding counts_reply verdict_number number
returns c = simp (eq-eqb _ _ c.if-first-blocks.false, eq-eqb _ _ c.if-second-blocks.false)
