use Prim.Native.Nat.{◌<◌}
use native.Mathlib.Omega.{arith}
use lib.Pow.{pow-lt}
use Rattle.field.proofs.Primitive.{usable}
use Rattle.field.proofs.product.Goals as goal

pub shift_and_add-r-requires : goal.shift_and_add-r-requires
shift_and_add-r-requires c = rw (c.degree-m.ensures, c.modulus-modulus.ensures) (record { usable = usable _; x_bound = c.requires })

pub overflow_cast-result : goal.overflow_cast-result
overflow_cast-result c = let degree : c.degree-m.result < 16 = rw c.degree-m.ensures (usable _).small in
    omega (arith, pow-lt degree, c.shift_and_add-r.ensures.low)

pub returns : goal.returns
returns c = rw (c.degree-m.ensures, c.modulus-modulus.ensures) at c.shift_and_add-r.ensures
