use Rattle.remainder.specs.Remainder.{number_of}
use Rattle.register_digits.proofs.from_bytes.Goals as goal

pub returns : goal.returns
unfolding number_of
returns c = c.number_at.ensures
