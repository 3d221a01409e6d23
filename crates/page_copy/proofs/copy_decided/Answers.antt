use mathlib.Core.Path.{◌∙◌}
use Rattle.page_keep.proofs.Keeping.{decided-kept}
use Rattle.page_copy.proofs.Ends.{take-decided}
use Rattle.page_copy.proofs.copy_decided.Goals as goal

pub restore_blocks-requires : goal.restore_blocks-requires
restore_blocks-requires c = let p = c.requires in
    let j = c.copy_messages.ensures in
    record { planned = (p.ready.0.plan, decided-kept _ _ _ _ p.ready.0.plan p.all_decided.0, p.all_decided.1); metadata_len = (j.metadata ∙ p.ready.1, j.«data» ∙ p.ready.2) }

pub returns : goal.returns
returns c = let p = c.requires in
    take-decided _ _ p.ready.0 _ _ p.ready.1 p.ready.2 _ _ p.all_decided.0 c.copy_messages.ensures c.restore_blocks.ensures
    (λ i. (c.slice_known-5-1.given i).fits) (λ i. (c.slice_known-6-1.given i).fits)
