use Rattle.page_plan.proofs.Plans.{shape-stored, shape-fits, block_inside}
use Rattle.replies.specs.Replies.{verdict_number}
use Rattle.page_claim.proofs.Ends.{claim-accepted, claim-rejected}
use Rattle.page_claim.proofs.claim.claim_lent.Goals as goal

pub is_right-requires : goal.is_right-requires
is_right-requires c = let q = c.args.plan in
    let b = c.args.block in
    let e = c.block_shape-shape.ensures in (
      rw e (shape-stored q b c.requires.0.plan),
      shape-fits q c.requires.0.plan b c.requires.1 e,
      block_inside q c.requires.0.plan b c.requires.1 e c.requires.0.size c.block_start-position.ensures.eq,
    )

pub returns-then-is_right : goal.returns-then-is_right
unfolding verdict_number
returns-then-is_right c = claim-accepted c.args.plan c.args.page.now c.args.block c.requires.0.size c.requires.1 c.args.claims.now c.block_shape-shape.ensures
    c.block_start-position.ensures.eq c.is_right.ensures c.if-is_right.true

pub returns : goal.returns
returns c = rw c.wrong.ensures (
    claim-rejected c.args.plan c.args.page.now c.args.block c.requires.0.size c.requires.1 c.args.claims.now c.block_shape-shape.ensures
    c.block_start-position.ensures.eq c.is_right.ensures c.if-is_right.false)
