use mathlib.Core.Path.{sym, ◌∙◌}
use Rattle.std.proofs.lemmas.Result.{err_from_is_err_and}
use Rattle.replies.specs.Replies.{verdict_number}
use Rattle.compare.specs.Calls.{compare_for, compare_of}
use Rattle.compare.proofs.Ends.{compare-layout}
use Rattle.compare.proofs.pages.compare_pages.Goals as goal

pub compare_in-requires : goal.compare_in-requires
compare_in-requires c = record { layout = _; accepted = sym c.check_layout.ensures ∙ c.in_ok-layout.was; same = c.plan_of.ensures }

pub returns-in_err-layout : goal.returns-in_err-layout
unfolding verdict_number compare_of
returns-in_err-layout c = let a = c.args in
    let p = err_from_is_err_and c.from_residual.result c.from_residual.ensures.1 in
    rw p.1 (compare-layout a.first.now a.second.now a.firsts.now a.seconds.now p.2
    (sym c.check_layout.ensures ∙ c.in_err-layout.was))

pub returns : goal.returns
unfolding compare_of compare_for
returns c = c.compare_in.ensures
    ∙ simp (c.plan_of.ensures, sym c.check_layout.ensures, c.in_ok-layout.was)
