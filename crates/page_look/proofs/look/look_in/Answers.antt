use Rattle.std.proofs.lemmas.Result.{err_from_is_err_and}
use Rattle.page_plan.proofs.Asking.{told-passed, told-number}
use Rattle.replies.specs.Replies.{verdict_number, verdict_block}
use Rattle.page_look.proofs.Ends.{look-refused, reply-ready}
use Rattle.page_look.proofs.look.look_in.Goals as goal

pub look_lent-requires : goal.look_lent-requires
look_lent-requires c = let a = c.args in
    reply-ready a.plan a.page.now a.counts.now c.requires (told-passed c.in_ok-look_reply.was c.look_reply.ensures)

pub returns-in_err-look_reply : goal.returns-in_err-look_reply
unfolding verdict_number verdict_block
returns-in_err-look_reply c = let a = c.args in
    let p = err_from_is_err_and c.from_residual.result c.from_residual.ensures.1 in
    rw (p.1, p.2) (look-refused a.plan a.page.now a.counts.now _ (told-number c.in_err-look_reply.was c.look_reply.ensures))
