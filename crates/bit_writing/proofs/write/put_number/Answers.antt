use mathlib.Core.Path.{refl, sym}
use Prim.Native.Nat.{◌-◌, ◌%◌}
use native.Mathlib.Omega.{arith}
use Rattle.bit_writing.proofs.Parts.{part_placed}
use Rattle.bits.proofs.Placed.{placed_past}
use Rattle.bit_writing.proofs.write.put_number.Goals as goal

pub returns-then-i-page : goal.returns-then-i-page
returns-then-i-page c = let a = c.args in
    part_placed _ a.position (8 - a.position % 8 - a.n) a.n a.v _ (record { count = refl; small = λ j. (c.slice_known-then-i-page-1.given j).fits })
    refl (omega arith) c.requires.1 c.if-i-page.true c.replaced.ensures

pub returns-else-i-page : goal.returns-else-i-page
returns-else-i-page c = sym (placed_past _ _ _ (record { count = refl; small = λ j. (c.slice_known-1.given j).fits }) (omega arith))
