use mathlib.Core.Path.{◌≡◌, ◌∙◌}
use native.Mathlib.Omega.{arith}
use borrow.Author.Rules.{rules}
use Rattle.page_copy.proofs.Flipping.{restored-start, restored-next}
use Rattle.page_copy.proofs.copy.restore_blocks.Goals as goal

pub loop-b-init : goal.loop-b-init
loop-b-init c = restored-start _ _ _ _ _

pub bounds-flips-i : goal.bounds-flips-i
bounds-flips-i c = let p = c.requires in omega (arith, p.planned.0.few)

pub restore_block-requires : goal.restore_block-requires
restore_block-requires c = let l = c.loop-b in
    let p = c.requires in
    rw c.wide-n.ensures (record { planned = (p.planned.0, search rules, p.planned.1.few l.b (search rules), p.planned.1.below l.b (search rules), omega (arith, p.planned.2)); metadata_len = (l.invariant.metadata ∙ p.metadata_len.0, l.invariant.«data» ∙ p.metadata_len.1) })

pub loop-b-preserved : goal.loop-b-preserved
loop-b-preserved c = let l = c.loop-b in
    restored-next _ _ _ l.b c.wide-n.ensures l.invariant c.restore_block.ensures

pub returns : goal.returns
returns c = let l = c.loop-b in
    let e : l.b ≡ c.args.plan.blocks = omega arith in
    rw e at l.invariant
