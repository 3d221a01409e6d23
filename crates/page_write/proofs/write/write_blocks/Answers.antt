use mathlib.Core.Path.{◌≡◌, ◌∙◌}
use native.Mathlib.Omega.{arith}
use borrow.Author.Rules.{rules}
use Rattle.page_plan.proofs.Plans.{shape-zero}
use Rattle.page_write.proofs.Writing.{page-put, streamed-first, streamed-size, streamed-next, streamed-end}
use Rattle.page_write.proofs.write.write_blocks.Goals as goal

pub loop-block-init : goal.loop-block-init
loop-block-init c = let q = c.args.plan in
    streamed-first q _ _ (shape-zero q c.requires.0) c.requires.1.size c.write_first.ensures.0

pub write_later-requires : goal.write_later-requires
write_later-requires c = let s = c.loop-block in
    let h = c.requires.1 in
    record {
      planned = (
        c.requires.0,
        record { metadata = h.metadata; «data» = h.«data»; size = streamed-size c.args.plan _ _ s.invariant },
        c.write_first.ensures.1,
      );
      block_nonzero = (omega arith, c.loop-block-test.true);
    }

pub loop-block-preserved : goal.loop-block-preserved
loop-block-preserved c = let s = c.loop-block in
    streamed-next c.args.plan _ c.requires.0.valid s.block s.invariant c.write_later.ensures

pub fill_tail-requires : goal.fill_tail-requires
fill_tail-requires c = (c.requires.0, streamed-size c.args.plan _ _ c.loop-block.invariant)

pub shape_of-page : goal.shape_of-page
shape_of-page c = let n = streamed-size c.args.plan _ _ c.loop-block.invariant in
    let m = c.requires.1.size in
    search rules

pub returns : goal.returns
returns c = let q = c.args.plan in
    let s = c.loop-block in
    let some = c.requires.0.some in
    let e : s.block ≡ q.blocks = omega arith in
    streamed-end q _ c.requires.0.valid (rw e at s.invariant) c.fill_tail.ensures
    ∙ page-put q _ _ _ _ c.write_first.ensures.0
