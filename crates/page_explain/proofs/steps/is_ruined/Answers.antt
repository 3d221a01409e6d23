use borrow.Author.Tests.{eqb-true, eqb-false}
use Rattle.page_explain.proofs.steps.is_ruined.Goals as goal

pub returns : goal.returns
returns c = (eqb-true _ _, eqb-false _ _)
