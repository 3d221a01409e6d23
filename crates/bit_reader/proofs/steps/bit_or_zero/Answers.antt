use mathlib.Core.Path.{sym, ap}
use Rattle.bit_reader.specs.Reading.{bit_in}
use Rattle.bit_reader.proofs.steps.bit_or_zero.Goals as goal

pub returns-in-Some : goal.returns-in-Some
unfolding bit_in
returns-in-Some c = ap bit_in (sym c.in-Some.is)

pub returns-in-None : goal.returns-in-None
unfolding bit_in
returns-in-None c = ap bit_in (sym c.in-None.is)
