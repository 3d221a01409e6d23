use mathlib.Core.Path.{sym, ◌∙◌}
use Rattle.std.proofs.lemmas.Result.{err_from_is_err_and}
use Rattle.compare.specs.Calls.{found_by, difference_for, difference_of}
use Rattle.compare.proofs.Ends.{difference-layout}
use Rattle.compare.proofs.pages.next_difference.Goals as goal

pub returns-in_err-layout : goal.returns-in_err-layout
unfolding found_by difference_of
returns-in_err-layout c = let a = c.args in
    let p = err_from_is_err_and c.from_residual.result c.from_residual.ensures.1 in
    rw p.1 (difference-layout a.first.now a.second.now a.from p.2
    (sym c.check_layout.ensures ∙ c.in_err-layout.was))

pub returns : goal.returns
unfolding difference_of difference_for
returns c = c.difference_in.ensures
    ∙ simp (c.plan_of.ensures, sym c.check_layout.ensures, c.in_ok-layout.was)
