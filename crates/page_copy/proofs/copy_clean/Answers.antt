use Rattle.page_copy.proofs.Ends.{take-clean}
use Rattle.page_copy.proofs.copy_clean.Goals as goal

pub returns : goal.returns
returns c = let p = c.requires in
    take-clean _ _ p.ready.0 _ _ p.ready.1 p.ready.2 p.by_index c.copy_messages.ensures
    (λ i. (c.slice_known-3-1.given i).fits) (λ i. (c.slice_known-4-1.given i).fits)
