use mathlib.Core.Path.{sym, ap}
use Rattle.explain_words.specs.Words.{part_number}
use Rattle.explain_words.proofs.part_number.Goals as goal

pub returns-in-Metadata : goal.returns-in-Metadata
unfolding part_number
returns-in-Metadata c = sym (ap part_number c.in-Metadata.is)

pub returns-in-Data : goal.returns-in-Data
unfolding part_number
returns-in-Data c = sym (ap part_number c.in-Data.is)

pub returns-in-Parity : goal.returns-in-Parity
unfolding part_number
returns-in-Parity c = sym (ap part_number c.in-Parity.is)

pub returns-in-Tail : goal.returns-in-Tail
unfolding part_number
returns-in-Tail c = sym (ap part_number c.in-Tail.is)

pub returns-in-Mark : goal.returns-in-Mark
unfolding part_number
returns-in-Mark c = sym (ap part_number c.in-Mark.is)
