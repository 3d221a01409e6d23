use mathlib.Core.Path.{◌∙◌}
use Rattle.sector_pages.proofs.places.locate_bit.Goals as goal

pub returns : goal.returns
returns c = c.bit_for.ensures ∙ rw c.check_sectors.ensures
