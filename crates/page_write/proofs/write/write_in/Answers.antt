use Rattle.std.proofs.lemmas.Result.{err_from_is_err_and}
use Rattle.page_plan.proofs.Asking.{told-passed, told-number}
use Rattle.replies.specs.Replies.{verdict_number, verdict_block}
use Rattle.page_write.proofs.Writing.{reply-lent, write-refused, write_done}
use Rattle.page_write.proofs.write.write_in.Goals as goal

pub write_blocks-requires : goal.write_blocks-requires
write_blocks-requires c = let e = told-passed c.in_ok-write_reply.was c.write_reply.ensures in
    (c.requires, reply-lent c.args.plan c.args.metadata.now c.args.«data».now c.args.page.now e)

pub returns-in_err-write_reply : goal.returns-in_err-write_reply
unfolding verdict_number verdict_block
returns-in_err-write_reply c = let a = c.args in
    let p = err_from_is_err_and c.from_residual.result c.from_residual.ensures.1 in
    rw (p.1, p.2)
    (write-refused a.plan a.metadata.now a.«data».now a.page.now _ (told-number c.in_err-write_reply.was c.write_reply.ensures))

pub returns : goal.returns
unfolding verdict_number verdict_block
returns c = let a = c.args in
    let e = told-passed c.in_ok-write_reply.was c.write_reply.ensures in
    write_done a.plan a.metadata.now a.«data».now a.page.now
    (reply-lent a.plan a.metadata.now a.«data».now a.page.now e) c.write_blocks.ensures
