use native.Mathlib.Omega.{arith}
use Rattle.std.proofs.lemmas.Result.{err_from_is_err_and}
use Rattle.page_plan.proofs.Asking.{told-passed, told-number, reply-asked}
use Rattle.replies.specs.Replies.{verdict_number, verdict_block}
use Rattle.page_judge.specs.Answers.{judge_flips}
use Rattle.page_judge.proofs.Ends.{judge-refused}
use Rattle.page_judge.proofs.judge.judge_in.Goals as goal

pub overflow_cast-block : goal.overflow_cast-block
overflow_cast-block c = let r = reply-asked c.args.plan c.args.page.now c.args.block c.requires (told-passed c.in_ok-block_reply.was c.block_reply.ensures) in
    omega (arith, r.1, c.requires.few)

pub judge_lent-requires : goal.judge_lent-requires
judge_lent-requires c = reply-asked c.args.plan c.args.page.now c.args.block c.requires (told-passed c.in_ok-block_reply.was c.block_reply.ensures)

pub returns-in_err-block_reply : goal.returns-in_err-block_reply
unfolding verdict_number verdict_block judge_flips
returns-in_err-block_reply c = let a = c.args in
    let p = err_from_is_err_and c.from_residual.result c.from_residual.ensures.1 in
    rw (p.1, p.2) (judge-refused a.plan a.page.now a.block _ (told-number c.in_err-block_reply.was c.block_reply.ensures))
