use native.Mathlib.Omega.{arith}
use lib.Pow.{pow_pos}
use Rattle.bit_writing.proofs.Parts.{shift_one, part-shifts, part-lt}
use Rattle.bit_writing.proofs.write.replaced.Goals as goal

pub nonzero_rem-below : goal.nonzero_rem-below
nonzero_rem-below c = rw (shift_one 32 c.args.k (omega arith)) (pow_pos _)

pub overflow_add-result : goal.overflow_add-result
overflow_add-result c = let a = c.args in
    omega (arith, part-shifts a.x a.k a.n a.v (omega arith) c.requires.0 c.requires.1, part-lt a.x a.k a.n a.v c.requires.1 c.requires.0 (omega arith))

pub overflow_add-result-2 : goal.overflow_add-result-2
overflow_add-result-2 c = let a = c.args in
    omega (arith, part-shifts a.x a.k a.n a.v (omega arith) c.requires.0 c.requires.1, part-lt a.x a.k a.n a.v c.requires.1 c.requires.0 (omega arith))

pub overflow_cast-result : goal.overflow_cast-result
overflow_cast-result c = let a = c.args in
    omega (arith, part-shifts a.x a.k a.n a.v (omega arith) c.requires.0 c.requires.1, part-lt a.x a.k a.n a.v c.requires.1 c.requires.0 (omega arith))

pub returns : goal.returns
returns c = part-shifts c.args.x c.args.k c.args.n c.args.v (omega arith) c.requires.0 c.requires.1
