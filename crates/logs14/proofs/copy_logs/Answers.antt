use mathlib.Core.Path.{refl, ◌∙◌}
use native.Mathlib.Nat.{le_refl}
use Rattle.field.specs.declared.Field.TheVariants.{Fourteen}
use Rattle.field.specs.Field.{degree}
use Rattle.stored_tables.proofs.Copy.{then}
use Rattle.stored_tables.proofs.Steps.{evens, odds, half, successors, crossed, stepped}
use Rattle.stored_tables.proofs.Stored.{passes, tested-logs, copied-logs, placed-logs, placed-size}
use Rattle.logs14.proofs.copy_logs.Goals as goal

pub returns : goal.returns
unfolding degree passes stepped crossed successors half odds evens
returns c = (
  placed-logs (copied-logs (tested-logs Fourteen tt refl) (le_refl 16384) (then c.copy_parts.ensures c.copy_parts-2.ensures refl))
      c.place_one.ensures,
  placed-size c.copy_parts-2.ensures c.place_one.ensures ∙ c.copy_parts.ensures.size
      ∙ c.requires.1,
)
