use mathlib.Core.Path.{sym, ◌∙◌}
use native.Mathlib.Omega.{arith}
use Rattle.sector_pages.proofs.Planned.{sectors-sound}
use Rattle.sector_pages.proofs.pages.look_page.Goals as goal

pub look_for-requires : goal.look_for-requires
look_for-requires c l e = sectors-sound _ (record { size = omega arith; last = omega arith; page = omega arith }) l (sym c.check_sectors.ensures ∙ e)

pub returns : goal.returns
returns c = c.look_for.ensures ∙ rw c.check_sectors.ensures
