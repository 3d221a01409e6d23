use mathlib.Core.Path.{refl}
use native.Mathlib.Omega.{arith}
use Rattle.block_outcome.proofs.count_of_zeros.Goals as goal

pub returns-then-zeros-t : goal.returns-then-zeros-t
returns-then-zeros-t c = (λ l. refl, λ m. absurd (omega (arith, c.if-zeros-t.true)))

pub returns-else-zeros-t : goal.returns-else-zeros-t
returns-else-zeros-t c = (λ l. absurd (omega (arith, c.if-zeros-t.false)), λ m. refl)
