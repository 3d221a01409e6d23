use native.Mathlib.Omega.{arith}
use Rattle.std.proofs.lemmas.Result.{err_from_is_err_and}
use Rattle.page_plan.proofs.Asking.{told-passed, told-number, reply-asked}
use Rattle.replies.specs.Replies.{verdict_number}
use Rattle.page_claim.proofs.Ends.{claim-refused}
use Rattle.page_claim.proofs.claim.claim_in.Goals as goal

pub overflow_cast-block : goal.overflow_cast-block
overflow_cast-block c = let r = reply-asked c.args.plan c.args.page.now c.args.block c.requires (told-passed c.in_ok-block_reply.was c.block_reply.ensures) in
    record { fits = omega (arith, r.1, c.requires.few) }

pub claim_lent-requires : goal.claim_lent-requires
claim_lent-requires c = reply-asked c.args.plan c.args.page.now c.args.block c.requires (told-passed c.in_ok-block_reply.was c.block_reply.ensures)

pub returns-in_err-block_reply : goal.returns-in_err-block_reply
unfolding verdict_number
returns-in_err-block_reply c = let a = c.args in
    let p = err_from_is_err_and c.from_residual.result c.from_residual.ensures.1 in
    rw (p.1, p.2) (claim-refused a.plan a.page.now a.block a.claims.now _ (told-number c.in_err-block_reply.was c.block_reply.ensures))
