use mathlib.Core.Path.{◌≡◌}
use native.Mathlib.Omega.{arith}
use Rattle.field.proofs.Primitive.{longest-below}
use Rattle.syndromes.proofs.PowerSums.{summed-none, summed-place, summed-agrees}
use Rattle.syndromes.proofs.power_sums.sums_agree.Goals as goal

pub loop-k-init : goal.loop-k-init
loop-k-init c = (c.requires.t_bound.4, summed-none _ _ c.requires.t_bound.1)

pub overflow_cast-p : goal.overflow_cast-p
overflow_cast-p c = omega (arith, c.requires.t_bound.3 c.loop-k.k (omega arith), longest-below c.args.f)

pub add_powers-requires : goal.add_powers-requires
add_powers-requires c = record { powers = c.requires.powers; t_bound = (c.requires.t_bound.0, c.requires.t_bound.3 c.loop-k.k (omega arith), c.loop-k.invariant.1.elements) }

pub loop-k-preserved : goal.loop-k-preserved
loop-k-preserved c = (c.loop-k.invariant.0, summed-place _ _ _ c.loop-k.k (omega (arith, c.loop-k.invariant.0)) c.loop-k.invariant.1 c.add_powers.ensures)

pub returns : goal.returns
returns c = let e : c.loop-k.k ≡ c.args.count = omega arith in
    summed-agrees _ _ (rw e at c.loop-k.invariant.1) c.all_zero.ensures
