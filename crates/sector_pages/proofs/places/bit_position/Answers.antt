use mathlib.Core.Path.{◌∙◌}
use Rattle.sector_pages.proofs.places.bit_position.Goals as goal

pub returns : goal.returns
returns c = c.position_for.ensures ∙ rw c.check_sectors.ensures
