use mathlib.Core.Path.{refl}
use Rattle.replies.specs.Replies.{number, block, verdict_number, verdict_block}
use Rattle.page_judge.specs.Answers.{judge_flips}
use Rattle.page_judge.proofs.judge.ruined.Goals as goal

pub returns : goal.returns
unfolding verdict_number verdict_block judge_flips number block
returns c = refl
