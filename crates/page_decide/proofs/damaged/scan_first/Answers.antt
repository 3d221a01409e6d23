use native.Mathlib.Omega.{arith}
use Rattle.page_plan.proofs.Tables.{table-first, second-same}
use Rattle.page_decide.proofs.damaged.scan_first.Goals as goal

pub scan_one-requires : goal.scan_one-requires
scan_one-requires c = let p = c.requires in
    record { ready = p.0; block_lt_blocks = (p.0.plan.some, table-first _ p.0.plan p.1) }

pub scan_two-requires : goal.scan_two-requires
scan_two-requires c = let p = c.requires in
    let l = p.0.plan.some in
    record { ready = p.0; block_bound = (omega arith, table-first _ p.0.plan p.1); block_value = second-same _ p.0.plan c.same_generator.ensures c.if-same_generator.true (omega arith) }

pub scan_one-requires-2 : goal.scan_one-requires-2
scan_one-requires-2 c = let p = c.requires in
    record { ready = p.0; block_lt_blocks = (p.0.plan.some, table-first _ p.0.plan p.1) }
