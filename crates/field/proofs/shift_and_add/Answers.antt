use mathlib.Core.Path.{◌≡◌}
use Prim.Native.Nat.{◌+◌, ◌-◌, ◌*◌, ◌/◌, ◌^◌}
use native.Mathlib.Omega.{arith}
use lib.Pow.{pow-lt}
use lib.Bits.{mask_lt}
use Rattle.field.proofs.Xor.{digit-le}
use Rattle.field.proofs.Partial.{partial-start, partial-next, partial-below, partial-product}
use Rattle.field.proofs.shift_and_add.Goals as goal

pub loop-k-init : goal.loop-k-init
loop-k-init c = let z : c.args.m - 0 ≡ c.args.m = omega arith in rw z (partial-start _ _ _ _)

pub overflow_mul-d : goal.overflow_mul-d
overflow_mul-d c = omega (arith, pow-lt c.requires.usable.small, partial-below _ _ _ _ c.requires.usable c.requires.x_bound _ _ c.loop-k.invariant)

pub overflow_shr-reduced : goal.overflow_shr-reduced
overflow_shr-reduced c = omega (arith, c.requires.usable.small)

pub overflow_mul-reduced : goal.overflow_mul-reduced
overflow_mul-reduced c = omega (arith, digit-le _ c.args.modulus (mask_lt (c.loop-k.r * 2 / 2 ^ c.args.m) 1))

pub overflow_shr-r : goal.overflow_shr-r
overflow_shr-r c = omega (arith, c.requires.usable.small)

pub overflow_mul-r : goal.overflow_mul-r
overflow_mul-r c = omega (arith, digit-le _ c.args.x (mask_lt (c.args.y / 2 ^ (c.args.m - 1 - c.loop-k.k)) 1))

pub loop-k-preserved : goal.loop-k-preserved
loop-k-preserved c =
    let at : c.args.m - 1 - c.loop-k.k ≡ c.args.m - c.loop-k.k - 1 = omega arith in
    let next : c.args.m - (c.loop-k.k + 1) ≡ c.args.m - c.loop-k.k - 1 = omega arith in
    rw (at, next) (partial-next _ _ _ _ (c.args.m - c.loop-k.k) _ (omega arith) (omega arith) c.loop-k.invariant)

pub returns : goal.returns
returns c = partial-product _ _ _ _ c.requires.usable c.requires.x_bound _ _ (omega arith) c.loop-k.invariant
