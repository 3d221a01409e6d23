use mathlib.Core.Path.{sym, ◌∙◌}
use borrow.Author.Tests.{eqb-true}
use Rattle.replies.specs.Replies.{verdict_number, verdict_block}
use Rattle.page_judge.specs.Answers.{judge_flips}
use Rattle.page_judge.proofs.Ends.{judge-clean}
use Rattle.page_judge.proofs.judge.judge_lent.Goals as goal

pub returns-then-clean : goal.returns-then-clean
unfolding verdict_number verdict_block judge_flips
returns-then-clean c = let p = c.requires in
    judge-clean _ _ p.0 _ p.1 (sym c.own_remainder-remainder.ensures ∙ eqb-true _ 0 (sym c.is_zero-clean.ensures ∙ c.if-clean.true))

pub judge_damaged-requires : goal.judge_damaged-requires
judge_damaged-requires c = let p = c.requires in
    (p.0, record { inside = p.1; is = c.own_remainder-remainder.ensures })
