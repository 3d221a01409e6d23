use native.Mathlib.Omega.{arith}
use Rattle.replies.specs.Replies.{number, block, verdict_number, verdict_block}
use Rattle.page_counts.proofs.Looking.{first-lowest, first-sound}
use Rattle.page_look.proofs.Ends.{look-done, look-ruined}
use Rattle.page_look.proofs.look.look_damaged.Goals as goal

pub returns-in-None : goal.returns-in-None
unfolding verdict_number verdict_block
returns-in-None c = let p = c.requires.pending in
    look-done _ _ p.ready _ p.underway.size c.count_damaged.ensures (omega arith) (omega arith)
    (first-sound _ _ p.ready.plan c.count_damaged.ensures c.in-None.ensures.none)

pub returns-in-Some : goal.returns-in-Some
unfolding verdict_number verdict_block number block
returns-in-Some c = let p = c.requires.pending in
    let f = c.in-Some.ensures.found in
    look-ruined _ _ p.ready _ p.underway.size c.count_damaged.ensures _ (omega arith) (omega arith)
    (first-lowest _ _ p.ready.plan c.count_damaged.ensures f.0 f.1)
