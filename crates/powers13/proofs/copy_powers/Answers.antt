use mathlib.Core.Path.{refl, ◌∙◌}
use native.Mathlib.Nat.{le_refl}
use Rattle.field.specs.Field.{longest}
use Rattle.field.proofs.Fast.{fast_x, reduce}
use Rattle.stored_tables.proofs.Chain.{chain}
use Rattle.stored_tables.proofs.Stored.{tested-powers, copied-powers}
use Rattle.powers13.proofs.copy_powers.Goals as goal

pub returns : goal.returns
unfolding longest chain fast_x reduce
returns c = (copied-powers (tested-powers tt refl) (le_refl 8191) c.copy_part.ensures, c.copy_part.ensures.size ∙ c.requires)
