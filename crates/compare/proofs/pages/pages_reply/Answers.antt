use mathlib.Core.Path.{sym, ◌∙◌}
use borrow.Author.Tests.{eq-eqb, ne_eqb}
use Rattle.replies.specs.Replies.{number, verdict_number}
use Rattle.compare.specs.Calls.{pages_reply}
use Rattle.compare.proofs.pages.pages_reply.Goals as goal

pub returns-then-first-size : goal.returns-then-first-size
unfolding pages_reply verdict_number number
returns-then-first-size c = simp (ne_eqb _ _ c.if-first-size.true)

pub returns-then-second-size : goal.returns-then-second-size
unfolding pages_reply verdict_number number
returns-then-second-size c = simp (eq-eqb _ _ c.if-first-size.false, ne_eqb _ _ c.if-second-size.true)

pub returns-then-not-is_compared : goal.returns-then-not-is_compared
unfolding pages_reply verdict_number number
returns-then-not-is_compared c = simp (eq-eqb _ _ c.if-first-size.false, eq-eqb _ _ c.if-second-size.false, sym c.is_compared.ensures ∙ c.if-not-is_compared.true)

pub returns : goal.returns
unfolding pages_reply verdict_number number
returns c = simp (eq-eqb _ _ c.if-first-size.false, eq-eqb _ _ c.if-second-size.false, sym c.is_compared.ensures ∙ c.if-not-is_compared.false)
