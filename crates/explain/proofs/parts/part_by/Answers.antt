use mathlib.Core.Path.{refl, sym, ap, ◌∙◌}
use Rattle.std.specs.Prelude.{Ok}
use Rattle.explain.specs.Reasons.{why}
use Rattle.explain.specs.Parts.{part_by}
use Rattle.explain.proofs.Places.{part-told}
use Rattle.explain.proofs.parts.part_by.Goals as goal

pub placed-requires : goal.placed-requires
placed-requires c = sym c.in-Ok.is ∙ c.requires

pub returns-in-Ok : goal.returns-in-Ok
unfolding part_by
returns-in-Ok c = part-told _ _ c.requires c.in-Ok.is (ap Ok c.placed.ensures)

pub returns-in-Err : goal.returns-in-Err
unfolding part_by why
returns-in-Err c = part-told _ _ c.requires c.in-Err.is refl
