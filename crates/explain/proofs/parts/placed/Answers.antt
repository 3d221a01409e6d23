use mathlib.Core.Path.{sym, ap, ◌∙◌}
use native.Mathlib.Omega.{arith}
use Rattle.explain.specs.Parts.{placed}
use Rattle.explain.proofs.Places.{covered-in}
use Rattle.explain.proofs.parts.placed.Goals as goal

pub overflow_cast-block : goal.overflow_cast-block
overflow_cast-block c = omega (arith, (covered-in _ _ c.requires c.in-InBlock.is).0)

pub covered_place-requires : goal.covered_place-requires
covered_place-requires c = (covered-in _ _ c.requires c.in-InBlock.is).1

pub returns-in-InBlock : goal.returns-in-InBlock
unfolding placed
returns-in-InBlock c = c.covered_place.ensures ∙ sym (ap (placed _ _) c.in-InBlock.is)

pub returns-in-Tail : goal.returns-in-Tail
unfolding placed
returns-in-Tail c = c.place_at.ensures ∙ sym (ap (placed _ _) c.in-Tail.is)

pub returns-in-Mark : goal.returns-in-Mark
unfolding placed
returns-in-Mark c = c.place_at-in-Mark.ensures ∙ sym (ap (placed _ _) c.in-Mark.is)
