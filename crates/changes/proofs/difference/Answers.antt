use mathlib.Core.Path.{sym, ◌∙◌}
use mir.Syntax.{w16}
use mir.ValLaws.{to_z-of_z}
use Rattle.changes.proofs.Showing.{as-signed, difference-is, bytes_fit}
use Rattle.changes.proofs.difference.Goals as goal

pub overflow_sub-result : goal.overflow_sub-result
overflow_sub-result c = search bytes_fit

pub returns : goal.returns
returns c = to_z-of_z w16 _ (overflow_sub-result c) ∙ rw (as-signed _ c.ranges.first.fits, as-signed _ c.ranges.second.fits) (sym (difference-is _ _))
