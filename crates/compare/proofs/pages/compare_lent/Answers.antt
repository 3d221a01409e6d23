use mathlib.Core.Path.{◌∙◌}
use Rattle.std.proofs.lemmas.Result.{err_from_is_err_and}
use Rattle.replies.specs.Replies.{verdict_number}
use Rattle.page_plan.proofs.Asking.{told-passed, told-number}
use Rattle.compare.proofs.Ends.{pages-right, counts-right, look-counts, counts-refused, counts-done}
use Rattle.compare.proofs.pages.compare_lent.Goals as goal

pub returns-in_err-counts_reply : goal.returns-in_err-counts_reply
unfolding verdict_number
returns-in_err-counts_reply c = let a = c.args in
    let p = err_from_is_err_and c.from_residual.result c.from_residual.ensures.1 in
    rw (p.1, p.2) (counts-refused a.plan a.first.now a.second.now a.firsts.now a.seconds.now _
    (told-number c.in_err-counts_reply.was c.counts_reply.ensures))

pub returns : goal.returns
unfolding verdict_number
returns c = let a = c.args in
    let none = told-passed c.in_ok-counts_reply.was c.counts_reply.ensures in
    let pages = pages-right a.plan _ _ c.requires.1 in
    let counts = counts-right a.plan _ _ none in
    counts-done a.plan a.first.now a.second.now a.firsts.now a.seconds.now none
    (c.look_counts.ensures ∙ look-counts c.requires.0 a.first.now a.firsts.now pages.0 counts.0)
    (c.look_counts-2.ensures ∙ look-counts c.requires.0 a.second.now a.seconds.now pages.1 counts.1)
