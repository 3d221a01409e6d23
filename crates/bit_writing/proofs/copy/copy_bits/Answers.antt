use Prim.Native.Nat.{◌-◌, ◌*◌, ◌/◌, ◌%◌}
use native.Mathlib.Omega.{arith}
use Rattle.bits.proofs.Placed.{placed-three}
use Rattle.bit_writing.proofs.copy.copy_bits.Goals as goal

pub returns : goal.returns
returns c = let a = c.args in
    let head = (8 - a.position % 8) % 8 in
    placed-three _ _ _ _ head (8 * ((a.n - head) / 8)) _ (omega arith) c.copy_part-2.ensures c.copy_bytes.ensures c.copy_rest.ensures
