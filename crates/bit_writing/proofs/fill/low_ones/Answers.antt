use Prim.Native.Nat.{◌^◌, ◌≤◌}
use native.Mathlib.Omega.{arith}
use lib.Pow.{pow_pos, pow_mono}
use Rattle.bit_writing.proofs.Parts.{shift_one}
use Rattle.bit_writing.proofs.fill.low_ones.Goals as goal

pub overflow_sub-result : goal.overflow_sub-result
overflow_sub-result c = rw (shift_one 16 c.args.n (omega arith)) (pow_pos _)

pub overflow_cast-result : goal.overflow_cast-result
overflow_cast-result c = rw (shift_one 16 c.args.n (omega arith)) (let h : 2 ^ c.args.n ≤ 2 ^ 8 = pow_mono c.requires in omega arith)

pub returns : goal.returns
returns c = rw (shift_one 16 c.args.n (omega arith))
