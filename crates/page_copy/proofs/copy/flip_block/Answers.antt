use mathlib.Core.Path.{◌≡◌, ◌∙◌}
use native.Mathlib.Omega.{arith}
use borrow.Author.Rules.{rules}
use Rattle.bits.specs.Bits as bits
use Rattle.page_keep.specs.Keeping.{kept}
use Rattle.page_copy.proofs.Flipping.{kept_next, kept-below, flipped-none, flipped-next}
use Rattle.page_copy.proofs.copy.flip_block.Goals as goal

pub loop-i-init : goal.loop-i-init
unfolding kept bits.run
loop-i-init c = flipped-none _ _ _ _

pub flip_place-requires : goal.flip_place-requires
flip_place-requires c = let l = c.loop-i in
    let a = c.requires in
    record { planned = (a.planned.0, a.planned.1, kept-below _ _ _ _ _ a.planned.3 (search rules)); metadata_len = (l.invariant.metadata ∙ a.metadata_len.0, l.invariant.«data» ∙ a.metadata_len.1) }

pub loop-i-preserved : goal.loop-i-preserved
loop-i-preserved c = let l = c.loop-i in
    rw (kept_next _ _ _) (flipped-next _ _ _ l.invariant c.flip_place.ensures)

pub returns : goal.returns
returns c = let l = c.loop-i in
    let e : l.i ≡ c.args.n = omega arith in
    rw e at l.invariant
