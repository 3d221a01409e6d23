use mathlib.Core.Path.{◌≡◌}
use native.Mathlib.Omega.{arith}
use Rattle.syndromes.proofs.PowerSums.{squaring-start, squaring-next, squaring-end}
use Rattle.syndromes.proofs.power_sums.add_squares.Goals as goal

pub loop-i-init : goal.loop-i-init
loop-i-init c = squaring-start _ c.requires.t_bound.1

pub product_by_tables-square-requires : goal.product_by_tables-square-requires
product_by_tables-square-requires c = let low = c.loop-i.invariant.elements.small c.loop-i.i in
    record { tables = c.requires.tables; x_bound = (low, low) }

pub loop-i-preserved : goal.loop-i-preserved
loop-i-preserved c = squaring-next _ _ _ (omega arith) c.loop-i.invariant c.product_by_tables-square.ensures

pub returns : goal.returns
returns c = let e : c.loop-i.i ≡ c.args.t = omega arith in squaring-end _ _ (rw e at c.loop-i.invariant)
