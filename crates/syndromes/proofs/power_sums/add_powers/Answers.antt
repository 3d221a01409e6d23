use mathlib.Core.Path.{◌≡◌}
use native.Mathlib.Omega.{arith}
use Rattle.field.proofs.Primitive.{longest-below}
use Rattle.syndromes.proofs.PowerSums.{adding-start, adding-next, adding-end}
use Rattle.syndromes.proofs.power_sums.add_powers.Goals as goal

pub overflow_add-p : goal.overflow_add-p
overflow_add-p c = omega (arith, longest-below c.args.f)

pub loop-i-init : goal.loop-i-init
loop-i-init c = adding-start _ _ c.requires.t_bound.2 c.requires.t_bound.1

pub offset_bounds-powers-e : goal.offset_bounds-powers-e
offset_bounds-powers-e c = omega (arith, c.loop-i.invariant.less, longest-below c.args.f)

pub bounds-powers-e : goal.bounds-powers-e
bounds-powers-e c = omega (arith, c.loop-i.invariant.less, longest-below c.args.f)

pub overflow_add-e : goal.overflow_add-e
overflow_add-e c = omega (arith, c.loop-i.invariant.less, c.wrap-double.ensures.0, longest-below c.args.f)

pub wrap-e-requires : goal.wrap-e-requires
wrap-e-requires c = omega (arith, c.loop-i.invariant.less, c.wrap-double.ensures.0)

pub loop-i-preserved : goal.loop-i-preserved
loop-i-preserved c = adding-next _ _ _ _ _ _ c.requires.powers (omega arith) c.loop-i.invariant c.wrap-double.ensures.1 c.wrap-e.ensures.0 c.wrap-e.ensures.1

pub returns : goal.returns
returns c = let e : c.loop-i.i ≡ c.args.t = omega arith in adding-end _ _ _ _ (rw e at c.loop-i.invariant)
