use Prim.Native.Nat.{◌-◌, ◌*◌, ◌/◌, ◌%◌}
use native.Mathlib.Omega.{arith}
use Rattle.bit_writing.proofs.Parts.{ones-three}
use Rattle.bit_writing.proofs.fill.fill_ones.Goals as goal

pub returns : goal.returns
returns c = let a = c.args in
    let head = (8 - a.position % 8) % 8 in
    ones-three _ _ head (8 * ((a.n - head) / 8)) _ (omega arith) c.fill_part-2.ensures c.fill_bytes.ensures c.fill_part-3.ensures
