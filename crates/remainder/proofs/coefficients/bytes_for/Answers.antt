use Rattle.remainder.specs.Remainder.{bytes_for}
use borrow.Author.Rules.{rules}
use Rattle.remainder.proofs.coefficients.bytes_for.Goals as goal

pub returns : goal.returns
unfolding bytes_for
returns c = search rules
