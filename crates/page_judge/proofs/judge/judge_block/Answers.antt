use mathlib.Core.Path.{sym, ◌∙◌}
use Rattle.page_plan.proofs.Plans.{words-sound}
use Rattle.page_judge.proofs.judge.judge_block.Goals as goal

pub judge_for-requires : goal.judge_for-requires
judge_for-requires c l e = words-sound _ (λ i. (c.shared_slice_known-1.given i).fits) l (sym c.check_layout.ensures ∙ e)

pub returns : goal.returns
returns c = c.judge_for.ensures ∙ rw c.check_layout.ensures
