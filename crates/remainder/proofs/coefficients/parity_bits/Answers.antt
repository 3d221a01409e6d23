use Prim.Native.Nat.{◌*◌}
use mathlib.Core.Path.{◌≡◌, ap}
use native.Mathlib.Omega.{arith}
use Rattle.field.specs.Field.{degree}
use Rattle.remainder.proofs.Fold.{parity-bits-below}
use Rattle.remainder.proofs.coefficients.parity_bits.Goals as goal

pub overflow_mul-result : goal.overflow_mul-result
overflow_mul-result c = let a = c.args in
    let l = parity-bits-below a.f a.t c.requires in
    let e : c.degree-m.result * a.t ≡ degree a.f * a.t = ap (λ m. m * a.t) c.degree-m.ensures in
    record { fits = omega arith }

pub returns : goal.returns
returns c = ap (λ m. m * c.args.t) c.degree-m.ensures
