use Rattle.page_explain.proofs.steps.explain_damaged.Goals as goal

pub explain_decided-requires : goal.explain_decided-requires
explain_decided-requires c = let p = c.requires in
    record { ready = (p.0, p.1.inside, c.decide_alone-decided.ensures); block_in_bounds = p.2 }
