use mathlib.Core.Path.{ap}
use native.Mathlib.Omega.{arith}
use Rattle.layout_plan.specs.declared.Shape.{Shape}
use Rattle.layout_plan.specs.Plan.{payload}
use Rattle.page_plan.proofs.Plans.{message-inside}
use Rattle.page_copy.proofs.Flipping.{filled-message}
use Rattle.page_copy.proofs.copy.fill_block.Goals as goal

pub fill-requires : goal.fill-requires
unfolding payload
fill-requires c = let p = c.requires in
    let i = message-inside c.args.plan p.planned.0.valid c.args.block p.planned.1 in
    let e = ap (λ (x : Shape). x.message) c.block_shape-shape.ensures in
    let f = c.message_start-start.ensures.eq in
    (record { metadata = omega (arith, p.planned.0.metadata); «data» = omega (arith, p.planned.0.«data») }, omega arith)

pub returns : goal.returns
returns c = let p = c.requires in
    filled-message _ _ _ _ p.planned.0.valid p.planned.1 p.metadata_len.0 p.metadata_len.1 (ap (λ (x : Shape). x.message) c.block_shape-shape.ensures)
    c.message_start-start.ensures.eq c.fill.ensures
