use mathlib.Core.Path.{sym, ◌∙◌}
use native.Mathlib.Omega.{arith}
use borrow.Author.Rules.{rules}
use Rattle.layout_plan.proofs.Plans.{start-firsts, start-product}
use Rattle.layout_plan.proofs.sums.block_start.Goals as goal

pub returns-then-block-firsts : goal.returns-then-block-firsts
returns-then-block-firsts c = record { eq = c.together.ensures.eq ∙ sym (start-firsts _ _ (search rules)); small = omega (arith, c.together.ensures.small) }

pub returns : goal.returns
returns c = record { eq = rw (c.together-2.ensures.eq, c.together-3.ensures.eq) (start-product _ _ (search rules)); small = omega (arith, c.together-2.ensures.small, c.together-3.ensures.small) }
