use mathlib.Core.Path.{refl}
use native.Mathlib.Omega.{arith}
use borrow.Author.Rules.{rules}
use Rattle.layout_plan.specs.Plan.{start, from}
use Rattle.page_plan.proofs.Plans.{shape-zero, pads-inside}
use Rattle.page_write.proofs.Writing.{message-lent}
use Rattle.page_write.proofs.write.write_first.Goals as goal

pub write_block-requires : goal.write_block-requires
unfolding from start
write_block-requires c = let q = c.args.plan in
    let h = c.requires.1 in
    let x = c.requires.0.metadata in
    let e = shape-zero q c.requires.0 in (
      c.make_table.ensures,
      rw e (c.requires.0.valid.sums 0),
      omega arith,
      message-lent q c.requires.0.valid 0 c.requires.0.some e h x c.requires.0.«data» refl,
      pads-inside q c.requires.0 0 c.requires.0.some e h.size refl,
    )

pub later_table-requires : goal.later_table-requires
later_table-requires c = let p = c.requires in
    (p.0, search rules, c.make_table.ensures)

pub returns : goal.returns
returns c = (c.write_block.ensures, c.later_table.ensures)
