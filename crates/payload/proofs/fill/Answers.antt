use native.Mathlib.Omega.{arith}
use mathlib.Core.Path.{refl}
use Rattle.bits.proofs.Numbers.{ones-length}
use Rattle.payload.proofs.Payload.{joined-first, joined-second, joined-ones}
use Rattle.payload.proofs.fill.Goals as goal

pub returns-then-position-n : goal.returns-then-position-n
returns-then-position-n c = let a = c.args in
    joined-first _ _ _ _ (record { count = refl; small = λ i. (c.slice_known-2-1.given i).fits })
    (omega (arith, ones-length a.n)) c.fill_ones.ensures

pub returns-then-split-position : goal.returns-then-split-position
returns-then-split-position c = joined-second _ _ _ _ _ (record { count = refl; small = λ i. (c.slice_known-1.given i).fits }) (omega arith) c.fill_ones-then-split-position.ensures

pub returns : goal.returns
returns c = joined-ones _ _ _ _ _ (record { count = refl; small = λ i. (c.slice_known-2-1.given i).fits }) (omega arith) (omega arith)
    c.fill_ones-2.ensures c.fill_ones-3.ensures
