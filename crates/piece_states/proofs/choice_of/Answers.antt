use mathlib.Core.Path.{sym, ap}
use Rattle.piece_states.specs.State.{choice_of}
use Rattle.piece_states.proofs.choice_of.Goals as goal

pub returns-in-Thirteen : goal.returns-in-Thirteen
unfolding choice_of
returns-in-Thirteen c = sym (ap choice_of c.in-Thirteen.is)

pub returns-in-Fourteen : goal.returns-in-Fourteen
unfolding choice_of
returns-in-Fourteen c = sym (ap choice_of c.in-Fourteen.is)
