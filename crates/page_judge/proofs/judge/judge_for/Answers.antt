use mathlib.Core.Path.{◌∙◌}
use Rattle.std.proofs.lemmas.Result.{err_from_is_err_and}
use Rattle.page_theory.specs.Calls.{judge_for}
use Rattle.replies.specs.Replies.{verdict_number, verdict_block}
use Rattle.page_judge.specs.Answers.{judge_flips}
use Rattle.page_judge.proofs.Ends.{judge-layout}
use Rattle.page_judge.proofs.judge.judge_for.Goals as goal

pub judge_in-requires : goal.judge_in-requires
judge_in-requires c = rw c.plan_of.ensures (c.requires _ c.in_ok-layout.was)

pub returns : goal.returns
unfolding judge_for
returns c = c.judge_in.ensures ∙ simp (c.plan_of.ensures, c.in_ok-layout.was)

pub returns-in_err-layout : goal.returns-in_err-layout
unfolding verdict_number verdict_block judge_flips
returns-in_err-layout c =
    let p = err_from_is_err_and c.from_residual.result c.from_residual.ensures.1 in
    rw p.1 (judge-layout _ _ p.2 c.in_err-layout.was)
