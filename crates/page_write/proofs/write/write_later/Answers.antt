use mathlib.Core.List.{◌++◌}
use native.Mathlib.Omega.{arith}
use Rattle.page_plan.proofs.Plans.{pads-inside}
use Rattle.page_plan.proofs.Tables.{table-shape}
use Rattle.page_write.proofs.Writing.{message-lent, put-block}
use Rattle.page_write.proofs.write.write_later.Goals as goal

pub write_block-requires : goal.write_block-requires
write_block-requires c = let q = c.args.plan in
    let b = c.args.block in
    let h = c.requires.planned.1 in
    let x = c.requires.planned.0.metadata in
    let l = c.requires.block_nonzero.1 in
    let e = c.block_shape-shape.ensures in (
      table-shape q c.requires.planned.0 b c.requires.block_nonzero.0 l e c.requires.planned.2,
      rw e (c.requires.planned.0.valid.sums b),
      omega arith,
      message-lent q c.requires.planned.0.valid b l e h x c.requires.planned.0.«data» c.message_start-at.ensures.eq,
      pads-inside q c.requires.planned.0 b l e h.size c.block_start-position.ensures.eq,
    )

pub returns : goal.returns
returns c = let a = c.args in
    put-block a.plan a.block (a.metadata.now ++ a.«data».now) a.page.now c.block_shape-shape.ensures c.message_start-at.ensures.eq c.block_start-position.ensures.eq c.write_block.ensures
