use mathlib.Core.Path.{sym, ◌∙◌}
use native.Mathlib.Omega.{arith}
use Rattle.sector_pages.proofs.Planned.{sectors-sound}
use Rattle.sector_pages.proofs.NoMetadata.{taken_none}
use Rattle.sector_pages.proofs.pages.take_page.Goals as goal

pub take_for-requires : goal.take_for-requires
take_for-requires c l e = sectors-sound _ (record { size = omega arith; last = omega arith; page = omega arith }) l (sym c.check_sectors.ensures ∙ e)

pub returns : goal.returns
returns c = taken_none _ _ _ (c.take_for.ensures ∙ rw c.check_sectors.ensures)
