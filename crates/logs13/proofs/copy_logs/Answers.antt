use mathlib.Core.Path.{refl, ◌∙◌}
use native.Mathlib.Nat.{le_refl}
use Rattle.field.specs.declared.Field.TheVariants.{Thirteen}
use Rattle.field.specs.Field.{degree}
use Rattle.stored_tables.proofs.Steps.{evens, odds, half, successors, crossed, stepped}
use Rattle.stored_tables.proofs.Stored.{passes, tested-logs, copied-logs, placed-logs, placed-size}
use Rattle.logs13.proofs.copy_logs.Goals as goal

pub returns : goal.returns
unfolding degree passes stepped crossed successors half odds evens
returns c = (
  placed-logs (copied-logs (tested-logs Thirteen tt refl) (le_refl 8192) c.copy_parts.ensures) c.place_one.ensures,
  placed-size c.copy_parts.ensures c.place_one.ensures ∙ c.requires.1,
)
