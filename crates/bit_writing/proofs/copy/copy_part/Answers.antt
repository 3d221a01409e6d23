use mathlib.Core.Path.{refl, ap, ◌∙◌}
use Rattle.bits.specs.Bits.{placed}
use Rattle.bits.proofs.Pages.{number-run-lt, digits-run}
use Rattle.bits.proofs.Placed.{placed-none}
use Rattle.bit_writing.proofs.copy.copy_part.Goals as goal

pub returns-then-n-eq0 : goal.returns-then-n-eq0
returns-then-n-eq0 c = placed-none _ _ _ _ _ (record { count = refl; small = λ j. (c.slice_known-1.given j).fits }) c.if-n-eq0.true

pub put_number-requires : goal.put_number-requires
put_number-requires c = (c.requires, rw c.bits_at-bits.ensures (number-run-lt _ _ _))

pub returns : goal.returns
returns c = c.put_number.ensures ∙ ap (placed _ _) (digits-run _ _ _ c.bits_at-bits.ensures)
