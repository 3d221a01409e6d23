use mathlib.Core.Path.{◌∙◌, ap}
use Rattle.bits.specs.Bits.{placed}
use Rattle.register_digits.proofs.place_parity.Goals as goal

pub returns : goal.returns
returns c = c.copy_bits.ensures ∙ ap (placed _ _) c.last_bits-bytes.ensures
