use borrow.Author.Tests.{ltb-true, ltb-false}
use Rattle.decoder.proofs.is_below.Goals as goal

pub returns : goal.returns
returns c = (ltb-true _ _, ltb-false _ _)
