use Rattle.std.proofs.lemmas.Result.{err_from_is_err_and}
use Rattle.page_plan.proofs.Asking.{told-passed, told-number}
use Rattle.replies.specs.Replies.{verdict_number, verdict_block}
use Rattle.page_take.proofs.Ends.{take-refused, reply-ready}
use Rattle.page_take.proofs.take.take_in.Goals as goal

pub take_lent-requires : goal.take_lent-requires
take_lent-requires c = let a = c.args in
    reply-ready a.plan a.page.now a.metadata.now a.«data».now c.requires
    (told-passed c.in_ok-take_reply.was c.take_reply.ensures)

pub returns-in_err-take_reply : goal.returns-in_err-take_reply
unfolding verdict_number verdict_block
returns-in_err-take_reply c = let a = c.args in
    let p = err_from_is_err_and c.from_residual.result c.from_residual.ensures.1 in
    rw (p.1, p.2) (take-refused a.plan a.page.now a.metadata.now a.«data».now _
    (told-number c.in_err-take_reply.was c.take_reply.ensures))
