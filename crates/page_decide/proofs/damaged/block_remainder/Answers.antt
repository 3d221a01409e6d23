use mathlib.Core.Path.{◌≡◌, refl, ◌∙◌, ap, sym}
use Rattle.layout_plan.specs.declared.Shape.{Shape}
use Rattle.layout_plan.specs.Plan.{level}
use Rattle.page_plan.proofs.Plans.{block_inside}
use Rattle.page_theory.specs.Page.{block_word}
use Rattle.page_decide.specs.Scanning.{remainder_at}
use Rattle.page_decide.proofs.Remainders.{remainder_at-none}
use Rattle.page_decide.proofs.damaged.block_remainder.Goals as goal

pub returns-then-t-eq0 : goal.returns-then-t-eq0
returns-then-t-eq0 c = let a = c.args in
    let e : level a.plan a.block ≡ 0 = ap (λ (x : Shape). x.level) (sym c.block_shape-shape.ensures) ∙ c.if-t-eq0.true in
    c.zero.ensures ∙ sym (remainder_at-none a.plan a.page.now a.block e)

pub remainder_in-requires : goal.remainder_in-requires
remainder_in-requires c = let p = c.requires in (
  rw c.block_shape-shape.ensures p.block_lt_blocks.1,
  rw c.block_covered-n.ensures.eq (block_inside _ p.ready.plan _ p.block_lt_blocks.0 refl p.ready.size c.block_start-start.ensures.eq),
)

pub returns : goal.returns
unfolding remainder_at block_word
returns c = c.remainder_in.ensures
    ∙ rw (c.block_covered-n.ensures.eq, c.block_start-start.ensures.eq, c.block_shape-shape.ensures)
