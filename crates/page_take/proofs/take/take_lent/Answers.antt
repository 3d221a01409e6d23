use native.Mathlib.Omega.{arith}
use Rattle.replies.specs.Replies.{verdict_number, verdict_block}
use Rattle.page_take.proofs.take.take_lent.Goals as goal

pub copy_clean-requires : goal.copy_clean-requires
copy_clean-requires c = record { ready = c.requires; by_index = λ b l. c.scan_page-scan.ensures.scan.clean b (omega arith) (omega arith) }

pub returns-then-block-plan : goal.returns-then-block-plan
unfolding verdict_number verdict_block
returns-then-block-plan c = c.copy_clean.ensures

pub take_damaged-requires : goal.take_damaged-requires
take_damaged-requires c = let e = c.scan_page-scan.ensures in
    record { ready = c.requires; scanned = (e.scan, e.table, omega (arith, e.scan.inside)) }
