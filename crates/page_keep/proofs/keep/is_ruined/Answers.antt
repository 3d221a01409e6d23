use borrow.Author.Tests.{eqb-true, eqb-false}
use Rattle.page_keep.proofs.keep.is_ruined.Goals as goal

pub returns : goal.returns
returns c = (eqb-true _ _, eqb-false _ _)
