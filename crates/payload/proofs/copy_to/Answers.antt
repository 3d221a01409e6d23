use native.Mathlib.Omega.{arith}
use mathlib.Core.Path.{refl}
use Rattle.bits.specs.Bits.{bit_of}
use Rattle.bits.proofs.Runs.{run_length}
use Rattle.payload.proofs.Payload.{joined-first, joined-second, joined-across}
use Rattle.payload.proofs.copy_to.Goals as goal

pub returns-then-position-n : goal.returns-then-position-n
returns-then-position-n c = let a = c.args in
    joined-first _ _ _ _ (record { count = refl; small = λ i. (c.slice_known-2-1.given i).fits })
    (omega (arith, run_length (bit_of a.page.now) a.at a.n)) c.copy_bits.ensures

pub returns-then-split-position : goal.returns-then-split-position
returns-then-split-position c = joined-second _ _ _ _ _ (record { count = refl; small = λ i. (c.slice_known-1.given i).fits }) (omega arith) c.copy_bits-then-split-position.ensures

pub returns : goal.returns
returns c = joined-across _ _ _ _ _ _ _ (record { count = refl; small = λ i. (c.slice_known-2-1.given i).fits }) (omega arith) (omega arith)
    c.copy_bits-2.ensures c.copy_bits-3.ensures
