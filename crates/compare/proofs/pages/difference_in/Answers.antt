use mathlib.Core.Path.{◌∙◌}
use Rattle.std.proofs.lemmas.Result.{err_from_is_err_and}
use Rattle.page_plan.proofs.Asking.{told-passed, told-number}
use Rattle.compare.specs.Calls.{found_by}
use Rattle.compare.proofs.Ends.{difference-refused, difference-done}
use Rattle.compare.proofs.pages.difference_in.Goals as goal

pub returns-in_err-pages_reply : goal.returns-in_err-pages_reply
unfolding found_by
returns-in_err-pages_reply c = let a = c.args in
    let p = err_from_is_err_and c.from_residual.result c.from_residual.ensures.1 in
    rw (p.1, p.2) (difference-refused a.plan a.first.now a.second.now a.from _
    (told-number c.in_err-pages_reply.was c.pages_reply.ensures))

pub returns : goal.returns
unfolding found_by
returns c = let a = c.args in
    difference-done a.plan a.first.now a.second.now a.from
    (told-passed c.in_ok-pages_reply.was c.pages_reply.ensures) c.next_from.ensures
