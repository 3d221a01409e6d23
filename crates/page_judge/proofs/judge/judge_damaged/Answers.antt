use mathlib.Core.Path.{◌∙◌}
use Rattle.replies.specs.Replies.{verdict_number, verdict_block}
use Rattle.page_judge.specs.Answers.{judge_flips}
use Rattle.page_judge.proofs.Ends.{judge-counted, judge-ruined}
use Rattle.page_judge.proofs.judge.judge_damaged.Goals as goal

pub returns-then-is_ruined : goal.returns-then-is_ruined
returns-then-is_ruined c = let p = c.requires in
    c.ruined.ensures ∙ judge-ruined _ _ p.0 _ p.1.inside c.decide_alone-decided.ensures.at (c.is_ruined.ensures.0 c.if-is_ruined.true)

pub returns : goal.returns
unfolding verdict_number verdict_block judge_flips
returns c = let p = c.requires in
    judge-counted _ _ p.0 _ p.1.inside c.decide_alone-decided.ensures.at (c.is_ruined.ensures.1 c.if-is_ruined.false)
