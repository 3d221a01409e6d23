use Rattle.page_counts.proofs.count_alike.Goals as goal

pub count_from-requires : goal.count_from-requires
count_from-requires c = let p = c.requires in
    record { pending = p.pending; serves = c.fill_serving.ensures _ p.one_field }
