use mathlib.Core.Path.{◌≡◌}
use native.Mathlib.Omega.{arith}
use Rattle.split_test.proofs.Splitting.{spread-start, spread-next}
use Rattle.split_test.proofs.spread.Goals as goal

pub loop-i-init : goal.loop-i-init
loop-i-init c = spread-start _

pub product_by_tables-square-requires : goal.product_by_tables-square-requires
product_by_tables-square-requires c = let low = c.requires.n_bound.1.small c.loop-i.i in
    record { tables = c.requires.tables; x_bound = (low, low) }

pub loop-i-preserved : goal.loop-i-preserved
loop-i-preserved c = spread-next _ _ c.requires.n_bound.1 (omega arith) c.loop-i.invariant c.product_by_tables-square.ensures

pub returns : goal.returns
returns c = let e : c.loop-i.i ≡ c.args.n = omega arith in rw e at c.loop-i.invariant
