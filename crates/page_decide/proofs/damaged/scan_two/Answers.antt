use mathlib.Core.Path.{refl, ◌∙◌}
use native.Mathlib.Omega.{arith}
use Rattle.page_plan.proofs.Plans.{block_inside}
use Rattle.page_theory.specs.Page.{block_word}
use Rattle.page_decide.specs.Scanning.{remainder_at}
use Rattle.page_decide.proofs.damaged.scan_two.Goals as goal

pub scan_one-requires : goal.scan_one-requires
scan_one-requires c = let p = c.requires in
    record { ready = p.ready; block_lt_blocks = (let l = p.block_bound.0 in omega arith, p.block_bound.1) }

pub scan_one-requires-then-n-m : goal.scan_one-requires-then-n-m
scan_one-requires-then-n-m c = let p = c.requires in
    record { ready = p.ready; block_lt_blocks = (let l = p.block_bound.0 in omega arith, p.block_bound.1) }

pub two_remainders_in-pair-requires : goal.two_remainders_in-pair-requires
two_remainders_in-pair-requires c = let p = c.requires in
    let k = c.if-n-m.false in (
      rw c.block_shape-shape.ensures p.block_bound.1,
      (let z = c.if-t-eq0.false in omega arith),
      rw c.block_covered-n.ensures.eq (block_inside _ p.ready.plan c.args.block (let l = p.block_bound.0 in omega arith) refl p.ready.size c.block_start-start.ensures.eq),
      rw (k, c.block_covered-m.ensures.eq) (block_inside _ p.ready.plan _ p.block_bound.0 refl p.ready.size c.block_start-end.ensures.eq),
    )

pub returns : goal.returns
unfolding remainder_at block_word
returns c = let r = c.two_remainders_in-pair.ensures in
    let p = c.requires in
    let g = c.block_shape-shape.ensures in
    let k = c.if-n-m.false in (
      refl,
      record {
        inside = (let l = p.block_bound.0 in omega arith);
        left = λ h. r.words_value ∙ rw (c.block_covered-n.ensures.eq, c.block_start-start.ensures.eq, g);
        ahead = λ h. r.words_value_2 ∙ rw (k, c.block_covered-m.ensures.eq, c.block_start-end.ensures.eq, g, p.block_value.0, p.block_value.1);
      },
    )
