use Rattle.page_keep.proofs.keep.keep_alike.Goals as goal

pub keep_from-requires : goal.keep_from-requires
keep_from-requires c = let p = c.requires in
    record { pending = p.pending; serves = c.fill_serving.ensures _ p.one_field.0 }
