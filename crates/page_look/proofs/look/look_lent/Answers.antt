use mathlib.Core.Path.{◌∙◌}
use native.Mathlib.Omega.{arith}
use Rattle.replies.specs.Replies.{verdict_number, verdict_block}
use Rattle.page_counts.proofs.Looking.{underway-start, underway-end, clean-sound}
use Rattle.page_look.proofs.Ends.{look-lent, look-done}
use Rattle.page_look.proofs.look.look_lent.Goals as goal

pub returns-then-block-plan : goal.returns-then-block-plan
unfolding verdict_number verdict_block
returns-then-block-plan c = let p = c.requires in
    let plan = p.0.plan in
    let u = underway-start _ _ plan c.scan_page-scan.ensures.scan c.clear.ensures p.1 in
    look-done _ _ p.0 _ p.1 (underway-end _ _ plan u (omega arith)) (omega arith) (omega arith)
    (clean-sound _ _ plan c.scan_page-scan.ensures.scan c.if-block-plan.true)

pub look_damaged-requires : goal.look_damaged-requires
look_damaged-requires c = let p = c.requires in
    record {
      pending = record {
        ready = p.0;
        table = c.scan_page-scan.ensures.table;
        underway = underway-start _ _ p.0.plan c.scan_page-scan.ensures.scan c.clear.ensures p.1;
      };
      block_lt_blocks = omega (arith, c.scan_page-scan.ensures.scan.inside);
    }

pub returns : goal.returns
returns c = let p = c.requires in
    c.look_damaged.ensures
    ∙ look-lent _ _ p.0 _ _ p.1 (underway-start _ _ p.0.plan c.scan_page-scan.ensures.scan c.clear.ensures p.1).size
