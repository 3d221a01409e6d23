use native.Mathlib.Omega.{arith}
use mathlib.Core.Path.{refl}
use borrow.Author.Rules.{rules}
use Rattle.payload.proofs.Payload.{joined-flip-first, joined-flip-second}
use Rattle.payload.proofs.flip.Goals as goal

pub returns-then-position-split : goal.returns-then-position-split
returns-then-position-split c = joined-flip-first _ _ _ (record { count = refl; small = λ i. (c.slice_known-2-1.given i).fits }) (search rules) c.flip_bit.ensures

pub returns-else-position-split : goal.returns-else-position-split
returns-else-position-split c = joined-flip-second _ _ _ _ (record { count = refl; small = λ i. (c.slice_known-1.given i).fits }) (omega arith) c.flip_bit-else-position-split.ensures
