use mathlib.Core.Path.{refl}
use native.Mathlib.Omega.{arith}
use Rattle.layout_plan.specs.SectorPlan.{parity_pads, pad_bytes, sector_shape}
use Rattle.layout_plan.proofs.sector_sums.sector_shape.Goals as goal

pub returns : goal.returns
unfolding sector_shape parity_pads pad_bytes
returns c = record { eq = rw (c.missing.ensures.eq, c.missing-ones.ensures.eq, c.parity_bits-parity.ensures.eq) refl; small = (omega (arith, c.parity_bits-parity.ensures.small), omega (arith, c.missing-ones.ensures.small, c.missing.ensures.small)) }
