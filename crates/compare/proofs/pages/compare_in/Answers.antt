use mathlib.Core.Path.{◌∙◌}
use Rattle.std.proofs.lemmas.Result.{err_from_is_err_and}
use Rattle.replies.specs.Replies.{verdict_number}
use Rattle.page_plan.proofs.Asking.{told-passed, told-number}
use Rattle.compare.proofs.Ends.{compare-refused, compare-passed}
use Rattle.compare.proofs.pages.compare_in.Goals as goal

pub compare_lent-requires : goal.compare_lent-requires
compare_lent-requires c = (c.requires, told-passed c.in_ok-pages_reply.was c.pages_reply.ensures)

pub returns-in_err-pages_reply : goal.returns-in_err-pages_reply
unfolding verdict_number
returns-in_err-pages_reply c = let a = c.args in
    let p = err_from_is_err_and c.from_residual.result c.from_residual.ensures.1 in
    rw (p.1, p.2) (compare-refused a.plan a.first.now a.second.now a.firsts.now a.seconds.now _
    (told-number c.in_err-pages_reply.was c.pages_reply.ensures))

pub returns : goal.returns
returns c = let a = c.args in
    c.compare_lent.ensures
    ∙ compare-passed a.plan a.first.now a.second.now a.firsts.now a.seconds.now
    (told-passed c.in_ok-pages_reply.was c.pages_reply.ensures)
