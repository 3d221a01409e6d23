use native.Mathlib.Omega.{arith}
use Rattle.page_decide.proofs.Deciding.{decided-few}
use Rattle.page_decide.proofs.Remainders.{located-below, located-few}
use Rattle.page_explain.proofs.Explained.{decided-flips, decided-erased, decided-ruined}
use Rattle.page_explain.proofs.steps.explain_decided.Goals as goal

pub returns-then-is_ruined : goal.returns-then-is_ruined
returns-then-is_ruined c = let p = c.requires in
    decided-ruined _ _ p.ready.0.plan.valid _ p.ready.1 _ c.block_shape-shape.ensures p.ready.2.at (c.is_ruined.ensures.0 c.if-is_ruined.true)

pub returns-then-count-ge128 : goal.returns-then-count-ge128
returns-then-count-ge128 c = let p = c.requires in
    decided-erased _ _ p.ready.0.plan.valid _ p.ready.1 _ c.block_shape-shape.ensures p.ready.2.at c.if-count-ge128.true
    (c.is_ruined.ensures.1 c.if-is_ruined.false)

pub list_flips-requires : goal.list_flips-requires
list_flips-requires c = let p = c.requires in
    let v = p.ready.0.plan.valid in
    let d = p.ready.2.at in
    let low = c.if-count-ge128.false in
    let located = d.repaired low in
    record {
      planned = (p.ready.0.plan, p.ready.1, rw c.wide.ensures (located-below _ _ _ _ located));
      exponents_len = (
        p.ready.2.size,
        omega (arith, c.wide.ensures, decided-few _ _ v _ p.ready.1 d low),
        omega (arith, c.wide.ensures, located-few _ _ _ _ located, d.flips low, p.block_in_bounds),
      );
    }

pub returns : goal.returns
returns c = let p = c.requires in
    decided-flips _ _ p.ready.0.plan.valid _ p.ready.1 _ c.block_shape-shape.ensures p.ready.2.at c.if-count-ge128.false
    (rw c.wide.ensures at c.list_flips.ensures)
