use borrow.Author.Tests.{ltb-true, ltb-false}
use Rattle.key_equation.proofs.keeps_length.Goals as goal

pub returns : goal.returns
returns c = (ltb-true _ _, ltb-false _ _)
