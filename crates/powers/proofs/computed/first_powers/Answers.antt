use mathlib.Core.Path.{refl, sym, ap, ◌∙◌}
use Prim.Native.Nat.{◌*◌, ◌^◌, ◌<◌}
use native.Mathlib.Nat.{pow-suc}
use native.Mathlib.Numerals.{add-one}
use native.Mathlib.Omega.{arith}
use lib.Pow.{pow-lt}
use Rattle.field.specs.Field.{degree}
use Rattle.field.specs.declared.Field.TheVariants.{Fourteen}
use Rattle.powers.proofs.Fill.{begun-start, begun-next, begun-less}
use Rattle.powers.proofs.Strides.{power_small}
use Rattle.powers.proofs.computed.first_powers.Goals as goal

pub loop-k-init : goal.loop-k-init
loop-k-init c = (begun-start _ c.requires, refl)

pub overflow_mul-x : goal.overflow_mul-x
overflow_mul-x c = let below : c.loop-k.k < 14 = omega arith in
    let small : 2 ^ c.loop-k.k < 2 ^ 14 = pow-lt below in
    omega (arith, c.loop-k.invariant.1)

pub loop-k-preserved : goal.loop-k-preserved
unfolding degree
loop-k-preserved c = let i = c.loop-k.invariant in (
  begun-next _ i.0 (omega arith) (i.1 ∙ sym (power_small Fourteen _ (omega arith))),
  rw add-one (ap (λ n. n * 2) i.1 ∙ sym (pow-suc 2 _)),
)

pub returns : goal.returns
returns c = begun-less c.loop-k.invariant.0 (omega arith)
