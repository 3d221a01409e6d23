use native.Mathlib.Omega.{arith}
use mathlib.Core.Path.{◌∙◌}
use borrow.Author.Rules.{rules}
use Rattle.page_plan.proofs.Plans.{from_first, from-product}
use Rattle.page_plan.proofs.message_start.Goals as goal

pub returns-then-block-firsts : goal.returns-then-block-firsts
returns-then-block-firsts c = record { eq = c.messages.ensures.eq ∙ from_first _ _ (search rules); small = omega (arith, c.messages.ensures.small) }

pub returns : goal.returns
returns c = record { eq = rw (c.messages-2.ensures.eq, c.messages-3.ensures.eq) (from-product _ _ (search rules)); small = omega (arith, c.messages-2.ensures.small, c.messages-3.ensures.small) }
